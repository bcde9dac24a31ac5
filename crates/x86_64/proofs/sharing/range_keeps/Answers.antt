use Rattle.std.proofs.Common.{◌≡◌, ◌↔◌, ◌≤◌, ◌<◌, ◌+◌, ◌%◌, ◌∙◌, ℕ, true, IsTrue, subst₂, ap, arith, rules}
use Rattle.x86_64_model.specs.Position.{index, position_count}
use Rattle.x86_64_spaces.specs.SpaceLayouts.{indices_of}
use Rattle.x86_64.proofs.SharedEntries.{range_met}
use Rattle.x86_64.proofs.sharing.range_keeps.Goals as goal

pub returns : goal.returns
returns g c =
    let L = g.L.LevelCount.LEVELS in
    let shared = indices_of c.args.shared in
    let start = c.args.range.start in let end = c.args.range.end in
    let some : 1 ≤ L = omega (arith, g.L.LevelCount.at_least_four) in
    let start_there : start < position_count L = search rules in
    let end_there : end + 0xfff < position_count L = search rules in
    let first_page : start % 4096 ≡ 0 = search rules in
    let last_page : end % 4096 ≡ 0 = search rules in
    let ordered : start ≤ end = search rules in
    let first : c.table_index-first.result ≡ index L start = c.table_index-first.ensures ∙ ap (λ n. index n start) c.LEVELS.ensures in
    let last : c.table_index-last.result ≡ index L end = c.table_index-last.ensures ∙ ap (λ n. index n end) c.LEVELS-2.ensures in
    range_met L some shared start end start_there end_there first_page last_page ordered c.are_unshared.result
    (subst₂ (λ a b. IsTrue c.are_unshared.result ↔ ((i : ℕ) → shared i ≡ true → a ≤ i → i ≤ b → ⊥)) first last c.are_unshared.ensures)
