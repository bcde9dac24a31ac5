-- Calls that change nothing if they are refused.
use Rattle.std.specs.Prelude.{◌≡◌, ℕ, ◌==◌, not, Bool, Some}
use Rattle.x86_64_model.specs.Call.{Call}
use Rattle.x86_64_model.specs.Hierarchy.{Hierarchy}
use Rattle.x86_64_model.specs.Store.{Store}
use Rattle.x86_64_c.specs.PoolCalls.{RunsCall, machine_status}
use Rattle.x86_64_c.specs.Status.{ok}

-- Whether a status isn't OK.
abbrev pub is_refusal : (status : ℕ) → Bool
is_refusal s = not (s == ok)

-- The status is that of the machine's reply to a call. If it is OK, the call was executed as the machine does it.
pub record RunsIfOk (h : Hierarchy (Unit {0})) (pool : Store) (call : Call) (after : Hierarchy (Unit {0})) (rest : Store) (status : ℕ) : Type 0 where
  pub status_is : Some status ≡ machine_status h pool call
  pub done : status ≡ ok → RunsCall h pool call after rest status
