use Rattle.std.proofs.Common.{◌≡◌, ◌≤◌, ◌+◌, ◌-◌, ◌&&◌, ◌∙◌, ap, arith}
use Rattle.x86_64_tables.specs.Translations.{frame_size}
use Rattle.x86_64_tables.specs.declared.translation.MappedFrame.{MappedFrame}
use Rattle.x86_64_tables.specs.declared.translation.MappedFrame.TheVariants.{Size4KiB, Size2MiB, Size1GiB}
use Rattle.x86_64_mappings.specs.Selections.{is_selected, is_mapping_selected}
use Rattle.x86_64_mappings.proofs.summaries.mappings.takes.Goals as goal

some_bytes : (frame : MappedFrame) → 1 ≤ frame_size frame
some_bytes (Size4KiB start) = omega arith
some_bytes (Size2MiB start) = omega arith
some_bytes (Size1GiB start) = omega arith

pub overflow_sub-last : goal.overflow_sub-last
overflow_sub-last g c =
    let size : frame_size c.mapping.inside.frame ≡ c.args.mapping.now.size = ap (λ m. m.size) c.mapping.view_is in
    let some = some_bytes c.mapping.inside.frame in
    omega (arith, c.size.ensures, size, some)

pub returns-then-wants : goal.returns-then-wants
returns-then-wants g c =
    let L = g.L.LevelCount.LEVELS in
    let selection = c.args.selection.now in
    let m = c.args.mapping.now in
    let size : frame_size c.mapping.inside.frame ≡ m.size = ap (λ m. m.size) c.mapping.view_is in
    let some = some_bytes c.mapping.inside.frame in
    let first : c.position-first.result ≡ m.start = c.position-first.ensures.value ∙ ap (λ m. m.start) c.mapping.view_is in
    let last : c.position-first.result + (c.size.result - 1) ≡ m.start + m.size - 1 = omega (arith, first, c.size.ensures, size, some) in
    let rights : c.mapping.inside.rights ≡ m.rights = ap (λ m. m.rights) c.mapping.view_is in
    c.selects.ensures ∙ (λ k. is_selected L selection (record { first = first k; last = last k; rights = rights k }))
    ∙ ap (λ wanted. wanted && is_mapping_selected L selection m) c.if-wants.ensures
