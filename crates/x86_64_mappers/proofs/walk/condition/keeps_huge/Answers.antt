use Rattle.std.proofs.Common.{◌≡◌, ◌-◌, ◌||◌, Bool, true, false, not, length, refl, sym, ap, ap₂, ◌∙◌}
use Rattle.std.proofs.Math.Bool.{beq}
use Rattle.x86_64_model.specs.Allowed.{both_or_none}
use Rattle.x86_64_model.specs.Entry.{has, used, huge}
use Rattle.x86_64_model.specs.Hierarchy.{◌laid_in◌, words}
use Rattle.x86_64_model.specs.Memory.{word}
use Rattle.x86_64_tables.specs.PageTableFlags.{bits_of}
use Rattle.x86_64_mappers.specs.private.Results.{walk_refusal}
use Rattle.x86_64_mappers.proofs.Entry.TableFlagConditions.{stopped_keeps, found_keeps}
use Rattle.x86_64_mappers.proofs.Entry.Flags.{tested}
use Rattle.x86_64_mappers.proofs.Way.Paths.{has_last_index, last_item}
use Rattle.x86_64_mappers.proofs.walk.condition.keeps_huge.Goals as goal

as_both : (a b : Bool) → beq a b ≡ both_or_none b a
as_both true true = refl
as_both true false = refl
as_both false true = refl
as_both false false = refl

pub returns-in_default : goal.returns-in_default
returns-in_default g c =
    let l = (g.M.Tables.hierarchy c.args.mapper.now).layout in
    let q = c.args.path.now in
    sym (stopped_keeps l (g.M.Tables.hierarchy c.args.mapper.now).memory q (length q - 1) (bits_of c.args.flags) (has_last_index q c.requires.some) (walk_refusal c.in_default.field-0) c.in_default.ensures.found)

pub returns-else-is_unused : goal.returns-else-is_unused
unfolding has
returns-else-is_unused g c =
    let l = (g.M.Tables.hierarchy c.args.mapper.now).layout in
    let m = (g.M.Tables.hierarchy c.args.mapper.now).memory in
    let q = c.args.path.now in
    let given = bits_of c.args.flags in
    let e = c.entry-entry.result.now in
    let long = has_last_index q c.requires.some in
    let is = c.entry-entry.ensures.value ∙ ap (word (words (l laid_in m)) c.in-Ok.table) (last_item q c.index-path-last.result long c.index-path-last.is) in
    let unused : not (used e) ≡ false = sym c.is_unused.ensures ∙ c.if-is_unused.false in
    let of_entry = sym (tested e c.flags.result.0 0x80 _ c.flags.ensures.value refl (c.contains.ensures tt)) in
    ap₂ beq of_entry (c.contains-else-is_unused.ensures tt) ∙ as_both (huge e) (huge given)
    ∙ sym (found_keeps l m q (length q - 1) given long c.in-Ok.table c.in-Ok.ensures.found ∙ ap (λ e. not (used e) || both_or_none (huge given) (huge e)) (sym is) ∙ ap (λ b. b || both_or_none (huge given) (huge e)) unused)
