use Rattle.std.proofs.Common.{arith, ◌≡◌, ◌≤◌, ◌<◌, ◌+◌, ◌-◌, ◌∙◌, ℕ, Bool, true, false, List, length, get_or, Option, Some, None, IfSome, refl, ap, subst}
use Rattle.std.specs.Prelude.{slice_get}
use Rattle.std.proofs.lemmas.Result.{err_from_is_err_and}
use Rattle.x86_64_model.specs.Hierarchy.{Hierarchy}
use Rattle.x86_64_spaces.specs.SpaceCalls.{TakesFirst, IsMade}
use Rattle.x86_64_spaces.specs.SpaceLayouts.{indices_of}
use Rattle.x86_64_tables.specs.LentPool.{stacked}
use Rattle.x86_64_tables.proofs.Stacks.{stacked-pop}
use Rattle.x86_64_c.specs.AddressSpaces.{space_at, wrong_indices}
use Rattle.x86_64_c.specs.Arguments.{at}
use Rattle.x86_64_c.specs.private.Pools.{Leaves}
use Rattle.x86_64_c.specs.private.Spaces.{MakesRoot}
use Rattle.x86_64_c.proofs.ArgumentsGiven.{with_room}
use Rattle.x86_64_c.proofs.address_spaces.NewSpaceOperation.execute.Goals as goal

not_empty : (array : List ℕ) (free : ℕ) → free ≤ length array → 0 < free → None ≡ slice_get (stacked array free) 0 → ⊥
not_empty array free within some none =
    let one : free ≡ (free - 1) + 1 = omega (arith, some) in
    let top = ap (stacked array) one ∙ stacked-pop array (free - 1) (omega (arith, within, some)) in
    let z : None ≡ Some (get_or array (free - 1) 0) = none ∙ ap (λ frames. slice_get frames 0) top in cc

made : (own : List ℕ) (shared : ℕ → Bool) (h : Hierarchy (Unit {0})) (array : List ℕ) (free : ℕ) (after : Hierarchy (Unit {0})) (left : List ℕ)
    (count : ℕ) (root : Option ℕ)
    → free ≤ length array → 0 < free
    → Leaves own array free left count
    (λ pool rest. TakesFirst pool root rest × IfSome root (λ root. IsMade shared h pool (space_at root) after.memory rest))
    → MakesRoot own shared h array free after left count root
made own shared h array free after left count None within some leaves = absurd (not_empty array free within some leaves.does.0.0)
made own shared h array free after left count (Some root) within some leaves = record
    { does = leaves.does; room = leaves.room; in_array = leaves.in_array }

pub returns-in_err-shared-clause-bad : goal.returns-in_err-shared-clause-bad
returns-in_err-shared-clause-bad g c =
    let e = err_from_is_err_and c.from_residual.result c.from_residual.ensures.1 in
    rw e.1 (with_room _ _ _ c.if-array-self.false ∙ rw (c.in_err-shared.ensures.bad, e.2) refl)

pub with_pool-requires : goal.with_pool-requires
with_pool-requires g c =
    let new = c.args.self.now in
    let room = with_room new.free_count (length c.args.array.now) (wrong_indices new.shared_from new.shared_to) c.if-array-self.false in
    record {
      in_array = c.if-array-self.false;
      fits = c.requires.may (room ∙ c.in_ok-shared.ensures.good);
      root = λ is. absurd (let z : false ≡ true = is in cc);
    }

pub returns-clause-good : goal.returns-clause-good
returns-clause-good g c =
    let new = c.args.self.now in
    with_room new.free_count (length c.args.array.now) (wrong_indices new.shared_from new.shared_to) c.if-array-self.false
    ∙ c.in_ok-shared.ensures.good

pub returns-clause-does : goal.returns-clause-does
returns-clause-does g c =
    let new = c.args.self.now in
    let h = at g.P.PageTableFrameMapping.places g.L.LevelCount.LEVELS c.args.located (g.T.TableMemory.tables c.args.memory.now) in
    let after = at g.P.PageTableFrameMapping.places g.L.LevelCount.LEVELS c.args.located (g.T.TableMemory.tables c.with_pool.new.memory) in
    let stepped = c.with_pool.result in
    subst (λ shared. MakesRoot new.own.frames (indices_of shared) h c.args.array.now new.free_count after c.with_pool.new.array stepped.free_count
    stepped.out) c.in_ok-shared.ensures.shared
    (made new.own.frames _ h c.args.array.now new.free_count after c.with_pool.new.array stepped.free_count stepped.out c.if-array-self.false
    (omega (arith, c.if-self-eq0.false)) c.with_pool.ensures.does)
