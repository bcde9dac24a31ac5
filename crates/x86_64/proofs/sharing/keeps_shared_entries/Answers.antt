use Rattle.std.proofs.Common.{◌≡◌, ◌↔◌, ◌≤◌, ◌+◌, ◌-◌, ℕ, true, false, [], ◌∷◌, IsTrue, sym, subst, subst₂, arith}
use Rattle.x86_64_model.specs.CleanUp.{meets}
use Rattle.x86_64_model.specs.Position.{position_count}
use Rattle.x86_64_spaces.specs.SpaceLayouts.{indices_of}
use Rattle.x86_64.proofs.SharedEntries.{all_met}
use Rattle.x86_64.proofs.sharing.keeps_shared_entries.Goals as goal

pub returns-in-CleanUp : goal.returns-in-CleanUp
returns-in-CleanUp g c =
    let h = g.M.Tables.hierarchy c.args.mapper.now in
    rw c.in-CleanUp.is (subst (λ n. IsTrue c.are_unshared.result ↔ ((i : ℕ) → indices_of c.args.shared i ≡ true → meets h.layout.levels 0 (position_count n - 1) (i ∷ []) ≡ false)) (g.met.M.TablesIn.level_count c.args.mapper.now)
    (all_met h.layout.levels (omega (arith, g.met.M.Tables.at_least_four c.args.mapper.now)) (indices_of c.args.shared) c.are_unshared.result
    (subst₂ (λ a b. IsTrue c.are_unshared.result ↔ ((i : ℕ) → indices_of c.args.shared i ≡ true → a ≤ i → i ≤ b → ⊥)) c.new.ensures c.new-in-CleanUp.ensures c.are_unshared.ensures)))

pub returns-in-Of4KiB : goal.returns-in-Of4KiB
returns-in-Of4KiB g c = rw c.in-Of4KiB.is c.page_keeps.ensures

pub returns-in-Of2MiB : goal.returns-in-Of2MiB
returns-in-Of2MiB g c = rw c.in-Of2MiB.is c.page_keeps-in-Of2MiB.ensures

pub returns-in-Of1GiB : goal.returns-in-Of1GiB
returns-in-Of1GiB g c = rw c.in-Of1GiB.is c.page_keeps-in-Of1GiB.ensures

pub returns-in-CleanUpRange : goal.returns-in-CleanUpRange
returns-in-CleanUpRange g c =
    let range = c.in-CleanUpRange.range in
    rw c.in-CleanUpRange.is
    (subst (λ n. IsTrue c.range_keeps.result ↔ ((i : ℕ) → indices_of c.args.shared i ≡ true → meets n range.start (range.end + 0xfff) (i ∷ [])
    ≡ false))
    (sym (g.met.M.TablesIn.level_count c.args.mapper.now)) c.range_keeps.ensures)
