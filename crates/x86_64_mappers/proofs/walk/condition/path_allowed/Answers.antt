use Rattle.std.proofs.Common.{◌≡◌, ◌-◌, ◌&&◌, ◌||◌, Bool, true, false, not, length, get_or, refl, sym, ap, ◌∙◌}
use Rattle.std.proofs.lemmas.Bool.{and_parts, not-true}
use Rattle.std.proofs.Math.Bool.{and-true}
use Rattle.x86_64_model.specs.Entry.{has, present}
use Rattle.x86_64_model.specs.Hierarchy.{◌laid_in◌, paths}
use Rattle.x86_64_model.specs.Window.{begins_with}
use Rattle.x86_64_tables.specs.PageTableFlags.{bits_of}
use Rattle.x86_64_mappers.specs.private.MapConditions.{flags_allowed, are_present}
use Rattle.x86_64_mappers.proofs.Way.Pages.{path_parted, small_page}
use Rattle.x86_64_mappers.proofs.Way.Paths.{has_last_index, some_index_of, page_below_root}
use Rattle.x86_64_mappers.proofs.walk.condition.path_allowed.Goals as goal

-- the flags are allowed, and the page isn't in the window
both_pass : (flags window F W : Bool) → flags ≡ F → window ≡ W → (flags && not window) ≡ true → (F ≡ true) × (not W ≡ true)
both_pass flags window F W x y is = let both = and_parts flags (not window) is in (sym x ∙ both.0, ap not (sym y) ∙ both.1)

pub returns-then-contains : goal.returns-then-contains
unfolding has
returns-then-contains g c =
    let l = (g.M.Tables.hierarchy c.args.mapper.now).layout in
    let q = c.args.path.now in
    let more = bits_of c.args.parent_flags in
    let M = paths (l laid_in (g.M.Tables.hierarchy c.args.mapper.now).memory) in
    let allowed = ap (λ s. flags_allowed s (bits_of c.args.flags) more) (sym (small_page l.levels g.S.PageSize.LEVEL q c.requires.levels)) in
    let tested = both_pass c.flags_allowed.result c.is_in_window.result _ (begins_with l.window q) (c.flags_allowed.ensures ∙ allowed) c.is_in_window.ensures c.if-flags_allowed-is_in_window.true in
    let here : present more ≡ true = sym (c.contains.ensures tt) ∙ c.if-contains.true in
    c.if-contains.true ∙ sym (λ i. tested.0 i && (here i || are_present M q) && tested.1 i)

pub returns-else-contains : goal.returns-else-contains
unfolding has
returns-else-contains g c =
    let l = (g.M.Tables.hierarchy c.args.mapper.now).layout in
    let q = c.args.path.now in
    let more = bits_of c.args.parent_flags in
    let M = paths (l laid_in (g.M.Tables.hierarchy c.args.mapper.now).memory) in
    let allowed = ap (λ s. flags_allowed s (bits_of c.args.flags) more) (sym (small_page l.levels g.S.PageSize.LEVEL q c.requires.levels)) in
    let tested = both_pass c.flags_allowed.result c.is_in_window.result _ (begins_with l.window q) (c.flags_allowed.ensures ∙ allowed) c.is_in_window.ensures c.if-flags_allowed-is_in_window.true in
    let gone : present more ≡ false = sym (c.contains.ensures tt) ∙ c.if-contains.false in
    let last = get_or q (length q - 1) 0 in
    let parted = path_parted q (length q - 1) (has_last_index q (some_index_of l.levels q g.S.PageSize.LEVEL c.requires.levels (page_below_root l.levels g.S.PageSize.LEVEL (g.met.M.Tables.at_least_four c.args.mapper.now) g.S.PageSize.high))) in
    let all = c.are_present.ensures last (ap (begins_with l.window) parted ∙ not-true _ tested.1) ∙ ap (are_present M) parted in
    sym ((λ i. tested.0 i && (gone i || sym all i) && tested.1 i) ∙ and-true c.are_present.result)

-- if one of the first tests fails, so does the condition
either_fails : (F P W : Bool) → (F && not W) ≡ false → (F && P && not W) ≡ false
either_fails false P W is = refl
either_fails true false W is = refl
either_fails true true W is = is

pub returns-else-flags_allowed-is_in_window : goal.returns-else-flags_allowed-is_in_window
unfolding has
returns-else-flags_allowed-is_in_window g c =
    let l = (g.M.Tables.hierarchy c.args.mapper.now).layout in
    let q = c.args.path.now in
    let more = bits_of c.args.parent_flags in
    let M = paths (l laid_in (g.M.Tables.hierarchy c.args.mapper.now).memory) in
    let flags = c.flags_allowed.ensures ∙ ap (λ s. flags_allowed s (bits_of c.args.flags) more) (sym (small_page l.levels g.S.PageSize.LEVEL q c.requires.levels)) in
    let tests = c.if-flags_allowed-is_in_window.false in
    let both = (λ i. sym flags i && not (sym c.is_in_window.ensures i)) ∙ tests in
    tests ∙ sym (either_fails _ (present more || are_present M q) (begins_with l.window q) both)
