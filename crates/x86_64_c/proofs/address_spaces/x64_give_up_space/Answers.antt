use Rattle.std.proofs.Common.{arith, ◌≡◌, ◌≤◌, ◌∙◌, ℕ, List, length, None, Some, refl, sym}
use Rattle.x86_64_spaces.specs.SpaceCalls.{IsGivenUp}
use Rattle.x86_64_tables.specs.LentMemory.{numbered}
use Rattle.x86_64_c.specs.AddressSpaces.{GivesUpSpace, bad_gone, shared_in}
use Rattle.x86_64_c.specs.Arguments.{hierarchy_in}
use Rattle.x86_64_c.specs.PoolCalls.{Loan, loan}
use Rattle.x86_64_c.specs.Status as status
use Rattle.x86_64_c.specs.declared.arguments.Hierarchy.{Hierarchy}
use Rattle.x86_64_c.specs.private.Pools.{Leaves}
use Rattle.x86_64_c.proofs.SpaceArguments.{refused_gone}
use Rattle.x86_64_c.proofs.SpaceResults.{is_in_use, is_zero}
use Rattle.x86_64_c.proofs.address_spaces.x64_give_up_space.Goals as goal

gives_up : (own : List ℕ) (h : Hierarchy) (lent after : Loan) (from to : ℕ) → length own ≤ length lent.array → bad_gone h lent from to ≡ None
    → Leaves own lent.array lent.free after.array after.free
    (λ pool rest. IsGivenUp (shared_in from to) (hierarchy_in h lent.tables) pool (numbered after.tables) rest)
    → GivesUpSpace own h lent from to status.ok after
gives_up own h lent after from to few good leaves = record {
  bad = λ why is. let z : None ≡ Some why = sym good ∙ is in cc;
  in_use = λ _ used. absurd (used leaves.does.none_used);
  given_up = λ _ _. (
    refl,
    record {
      given_up = leaves.does;
      fit = λ spaces other fit. record { room = omega (arith, few, leaves.room); are_spaces = leaves.does.spaces spaces other fit.are_spaces };
    },
  );
  room = leaves.room;
  in_array = λ _. leaves.in_array;
}

pub returns-in-Ok-out : goal.returns-in-Ok-out
returns-in-Ok-out g c =
    let lent = loan c.args.tables.now c.args.pool.now c.args.free_count.now in
    let after = loan c.enter.new.tables c.enter.new.array c.in-Ok.given_up.free_count in
    gives_up g.own c.args.hierarchy.now lent after c.args.shared_from c.args.shared_to c.requires.0.room c.in-Ok.ensures.good
    (rw (c.of.ensures, c.in-Ok-out.is) at c.in-Ok.ensures.does)

pub returns-in-Err : goal.returns-in-Err
returns-in-Err g c =
    refused_gone g.own c.args.hierarchy.now c.args.tables.now _ c.args.pool.now _ c.args.free_count.now c.args.shared_from c.args.shared_to c.in-Err.status
    c.in-Err.ensures.unchanged.0 c.in-Err.ensures.unchanged.1 c.in-Err.ensures.bad

pub returns-in-Err-EntryUsed : goal.returns-in-Err-EntryUsed
returns-in-Err-EntryUsed g c =
    let h = c.args.hierarchy.now in let from = c.args.shared_from in let to = c.args.shared_to in
    let kept = rw c.in-Err-EntryUsed.is at c.in-Ok.ensures.does in
    is_in_use g.own h c.args.tables.now c.enter.new.tables c.args.pool.now c.enter.new.array c.args.free_count.now c.in-Ok.given_up.free_count from to kept.1 kept.2 kept.3 c.in-Ok.ensures.good
    c.in-Err-EntryUsed.field-0 (rw c.in-Err-EntryUsed.is at c.in-Err-EntryUsed.field-0-is) kept.0

pub returns-in-Err-FrameZero : goal.returns-in-Err-FrameZero
returns-in-Err-FrameZero g c =
    let h = c.args.hierarchy.now in let from = c.args.shared_from in let to = c.args.shared_to in
    let kept = rw c.in-Err-FrameZero.is at c.in-Ok.ensures.does in
    absurd (is_zero g.own h c.args.tables.now c.enter.new.tables c.args.pool.now c.enter.new.array c.args.free_count.now c.in-Ok.given_up.free_count from to kept.1 kept.2 kept.3 c.in-Ok.ensures.good
    c.in-Err-FrameZero.field-0 (rw c.in-Err-FrameZero.is at c.in-Err-FrameZero.field-0-is) kept.0)

pub enter-requires : goal.enter-requires
enter-requires g c = λ right. (
  (rw c.of.ensures c.requires.0.room, rw c.of.ensures (c.requires.0.fits right)),
  rw c.of.ensures c.requires.1,
)
