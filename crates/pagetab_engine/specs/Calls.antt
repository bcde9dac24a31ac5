-- What a call of a mapper does to a hierarchy and a store of frames.
use Rattle.x86_64_model.specs.Call.{Call}
use Rattle.x86_64_model.specs.Hierarchy.{Hierarchy}
use Rattle.x86_64_model.specs.Store.{Store, Keeps}
use Rattle.x86_64.specs.Replies.{Reply}
use Rattle.x86_64.specs.Runs.{Stepped, LeavesFree}

-- A call was executed. The reply and the state after it are the machine's, and the rest of the store fits the valid hierarchy
-- again. Free frames keep their words, except that returned frames hold zeros.
pub record IsAnswered {Lent : Type 0} (h : Hierarchy Lent) (store : Store) (call : Call) (after : Hierarchy Lent) (rest : Store) (reply : Reply) : Type 0 where
  pub step : Stepped h store call reply after rest.frames
  pub free : LeavesFree h store call after rest.frames
  pub keeps : Keeps h store after rest
