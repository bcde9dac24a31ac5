-- Steps: expected results, step by step, and calls that return them.
use Rattle.std.specs.Prelude.{◌≡◌, Bool, true, false, List, [], ◌∷◌, Option, None, Some, Result, Ok, Err, ⊤}
pub use Rattle.x86_64_dump.specs.Steps.{and_then}
use Rattle.x86_64_dump.specs.declared.error.Fault.{Fault}
use Rattle.ptdump_engine.specs.declared.failure.Failure.{Failure}
use Rattle.ptdump_engine.specs.declared.failure.Failure.TheVariants as failures

-- The result of reading a dump as a step of a run, of which a fault is the failure.
abbrev pub of_dump : {A : Type 0} → Result A Fault → Result A Failure
of_dump (Ok a) = Ok a
of_dump (Err fault) = Err (failures.Dump fault)

-- The failure if there is one, or else the value.
abbrev pub unless_failure : {A : Type 0} → Option Failure → A → Result A Failure
unless_failure None a = Ok a
unless_failure (Some failure) a = Err failure

-- The failure is a forced one: of memory allocation, of a read, if reads may fail, or of a write, if writes may be refused.
abbrev pub MayBeForced : (may_fail may_refuse : Bool) → Failure → Type 0
MayBeForced may_fail may_refuse failures.OutOfMemory = ⊤
MayBeForced may_fail may_refuse (failures.Read error) = may_fail ≡ true
MayBeForced may_fail may_refuse failures.Output = may_refuse ≡ true
MayBeForced may_fail may_refuse failure = ⊥

-- The failure is that of the expected result, or a forced one: of memory allocation, of a read, if reads may fail, or of a write,
-- if writes may be refused.
abbrev pub FailsBy : {A : Type 0} → (may_fail may_refuse : Bool) → Failure → Result A Failure → Type 0
FailsBy may_fail may_refuse failures.OutOfMemory found = ⊤
FailsBy may_fail may_refuse (failures.Read error) found = may_fail ≡ true
FailsBy may_fail may_refuse failures.Output found = may_refuse ≡ true
FailsBy may_fail may_refuse failure found = found ≡ Err failure

-- A call that writes nothing returns the expected result, unless memory allocation failed, or a read, if reads may fail.
abbrev pub Finds : {A : Type 0} → (may_fail : Bool) → Result A Failure → Result A Failure → Type 0
Finds may_fail (Ok a) found = found ≡ Ok a
Finds may_fail (Err failure) found = FailsBy may_fail false failure found

-- The result of a call that writes nothing, seen by `view`, is the expected one, unless memory allocation failed, or a read, if
-- reads may fail.
abbrev pub FindsAs : {A B : Type 0} → (may_fail : Bool) → (view : A → B) → Result A Failure → Result B Failure → Type 0
FindsAs may_fail view (Ok a) found = found ≡ Ok (view a)
FindsAs may_fail view (Err failure) found = FailsBy may_fail false failure found

-- Steps lead from the state `before` to the state `after`, one for each item in order.
abbrev pub InTurn : {X G : Type 0} (Step : X → G → G → Type 0) → List X → (before after : G) → Type 0
InTurn Step [] before after = after ≡ before
InTurn {G = G} Step (x ∷ xs) before after = (between : G) × Step x before between × InTurn Step xs between after
