use Rattle.std.proofs.Common.{arith, ◌≡◌, ◌<◌, ◌≤◌, ◌∙◌, ℕ, Bool, true, List, length, Result, Ok, Err, IfErr, OnOk, refl, subst}
use Rattle.std.proofs.lemmas.Bool.{le-leb}
use Rattle.std.proofs.lemmas.Result.{err_from_is_err_and}
use Rattle.x86_64_model.specs.Hierarchy.{Hierarchy}
use Rattle.x86_64_spaces.specs.declared.giving_up.GiveUpError.{GiveUpError}
use Rattle.x86_64_spaces.specs.SpaceCalls.{IsGivenUp, IsReason}
use Rattle.x86_64_spaces.specs.SpaceLayouts.{indices_of}
use Rattle.x86_64_c.specs.AddressSpaces.{wrong_gone, wrong_indices}
use Rattle.x86_64_c.specs.Arguments.{at}
use Rattle.x86_64_c.specs.private.Pools.{Leaves}
use Rattle.x86_64_c.specs.private.Spaces.{GivesUpRoot, failed}
use Rattle.x86_64_c.proofs.address_spaces.GiveUpOperation.execute.Goals as goal

-- with a root and room for the free frames only the indices can be wrong
with_room : (root free capacity from to : ℕ) → 0 < root → free ≤ capacity → wrong_gone root free capacity from to ≡ wrong_indices from to
with_room root free capacity from to is_root room = rw (le-leb 1 root is_root, le-leb free capacity room) refl

gives_up : (own : List ℕ) (shared : ℕ → Bool) (h : Hierarchy (Unit {0})) (array : List ℕ) (free : ℕ) (after : Hierarchy (Unit {0})) (left : List ℕ)
    (count : ℕ) (given_up : Result (Unit {0}) GiveUpError)
    → Leaves own array free left count
    (λ pool rest. IfErr given_up (λ why. IsReason shared h why) × OnOk given_up (IsGivenUp shared h pool after.memory rest))
    → (failed given_up ≡ true → (after.memory ≡ h.memory) × (left ≡ array) × (count ≡ free)) → GivesUpRoot own shared h array free after left count
    given_up
gives_up own shared h array free after left count (Ok x) leaves unchanged = record
    { does = leaves.does.1; room = leaves.room; in_array = leaves.in_array }
gives_up own shared h array free after left count (Err why) leaves unchanged = let same = unchanged refl in (leaves.does.0, same.0, same.1, same.2)

pub with_pool-requires : goal.with_pool-requires
with_pool-requires g c =
    let gone = c.args.self.now in
    let is_root : 0 < gone.root = omega (arith, c.if-self-eq0.false) in
    let room = with_room gone.root gone.free_count (length c.args.array.now) gone.shared_from gone.shared_to is_root c.if-array-self.false in
    let may = c.requires.may (room ∙ c.in_ok-shared.ensures.good) in
    record { in_array = c.if-array-self.false; fits = may.0; root = λ _. may.1 }

pub returns : goal.returns
returns g c =
    let gone = c.args.self.now in
    let is_root : 0 < gone.root = omega (arith, c.if-self-eq0.false) in
    let room = with_room gone.root gone.free_count (length c.args.array.now) gone.shared_from gone.shared_to is_root c.if-array-self.false in
    let h = at g.P.PageTableFrameMapping.places g.L.LevelCount.LEVELS c.args.located (g.T.TableMemory.tables c.args.memory.now) in
    let after = at g.P.PageTableFrameMapping.places g.L.LevelCount.LEVELS c.args.located (g.T.TableMemory.tables c.with_pool.new.memory) in
    let stepped = c.with_pool.result in
    record {
      bad = tt;
      unchanged = tt;
      good = room ∙ c.in_ok-shared.ensures.good;
      does = subst (λ shared. GivesUpRoot gone.own.frames (indices_of shared) h c.args.array.now gone.free_count after c.with_pool.new.array
          stepped.free_count stepped.out) c.in_ok-shared.ensures.shared
          (gives_up gone.own.frames _ h c.args.array.now gone.free_count after c.with_pool.new.array stepped.free_count stepped.out
          c.with_pool.ensures.does c.with_pool.ensures.unchanged);
      lent = c.with_pool.ensures.lent;
    }

pub returns-in_err-shared-clause-bad : goal.returns-in_err-shared-clause-bad
returns-in_err-shared-clause-bad g c =
    let e = err_from_is_err_and c.from_residual.result c.from_residual.ensures.1 in
    let is_root : 0 < c.args.self.now.root = omega (arith, c.if-self-eq0.false) in
    let gone = c.args.self.now in
    let room = with_room gone.root gone.free_count (length c.args.array.now) gone.shared_from gone.shared_to is_root c.if-array-self.false in
    rw e.1 (room ∙ rw (c.in_err-shared.ensures.bad, e.2) refl)
