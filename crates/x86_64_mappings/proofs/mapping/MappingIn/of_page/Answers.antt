use Rattle.std.proofs.Common.{◌≡◌, ◌≢◌, ◌-◌, ◌*◌, ◌/◌, ◌%◌, ◌∙◌, refl, sym, ap, ap₂, subst, arith}
use Rattle.x86_64_model.specs.PageWalk.{page_start}
use Rattle.x86_64_model.specs.Position.{span, position_count}
use Rattle.x86_64_tables.specs.Translations.{frame_start, frame_size}
use Rattle.x86_64_tables.specs.declared.translation.MappedFrame.{MappedFrame}
use Rattle.x86_64_mappings.proofs.Pages.{third, sized, page_made}
use Rattle.x86_64_mappings.proofs.mapping.MappingIn.of_page.Goals as goal
use Rattle.x86_64_mappings.proofs.mapping.MappingIn.of_page.Goals.{in-1, in-2, in_default}

pub returns : goal.returns
returns g c =
    let L = g.L.LevelCount.LEVELS in
    let level = c.args.level in
    let e = c.args.entry.now in
    let frame = c.match-level.frame in
    let P : MappedFrame → Type 0 = λ f. (frame_size f ≡ span level) × (frame_start f ≡ page_start level e) in
    let sizes : P frame = elim c.match-level.branch [
      | in-1 w ↦ subst P (sym w.frame-is) (sized level 1 0x1000 w.containing_address.result e w.in-1.is refl (w.containing_address.ensures ∙ ap (λ n. n - n % 0x1000) w.addr.ensures))
      | in-2 w ↦ subst P (sym w.frame-is) (sized level 2 0x20_0000 w.containing_address-in-2.result e w.in-2.is refl (w.containing_address-in-2.ensures ∙ ap (λ n. n - n % 0x20_0000) w.addr-in-2.ensures))
      | in_default w ↦
          let h = w.in_default in
          let not_one : level ≢ 1 = λ e. omega (arith, e) in
          let not_two : level ≢ 2 = λ e. omega (arith, e) in
          subst P (sym w.frame-is) (sized level 3 0x4000_0000 w.containing_address-in_default.result e (third level e c.requires.page not_one not_two) refl (w.containing_address-in_default.ensures ∙ ap (λ n. n - n % 0x4000_0000) w.addr-in_default.ensures))
    ] in
    page_made L level c.args.position e c.args.above c.new_truncate.result frame c.flags.result c.below.result
    c.requires.inside
    (c.new_truncate.ensures ∙ ap₂ (λ a b. (c.args.position / a * b) % position_count L) c.size.ensures c.size-2.ensures)
    sizes.0 sizes.1 c.flags.ensures.value c.below.ensures
