-- The plain program's machine and states as those of the model.
use Rattle.std.specs.Prelude.{◌+◌, ◌^◌, ◌<◌}
use Rattle.x86_64_model.specs.Store.{put_first}
use Rattle.x86_64_model.specs.Translation.{Translated, NotMapped, Mapped}
use Rattle.x86_64_model.specs.Call.{Call}
use Rattle.x86_64_model.specs.Machine.{Machine, State, AfterCall, do_call}
use Rattle.test_reference.specs.Windows.{window_of}
use Rattle.test_reference.specs.Calls.{plain_reply}
use Rattle.test_reference.specs.declared.plain_calls.PlainReply.{PlainReply}
use Rattle.test_reference.specs.declared.machine.PlainMachine.{PlainMachine}
use Rattle.test_reference.specs.declared.machine.PlainState.{PlainState}

-- The plain program's machine, as that of the model. A frame that is given back comes to the front of the pool.
abbrev pub plain_machine : PlainMachine → Machine
plain_machine m = record { levels = m.levels; window = window_of m.window; added_flags = m.added_flags; take_back = put_first }

-- The plain program's state, as that of the model: the path map and the pool of free frames.
abbrev pub plain_state : PlainState → State
plain_state s = record { paths = s.paths; pool = s.pool.items }

-- The plain program's state after a call, and its reply, as the model has them.
abbrev pub plain_outcome : PlainState → PlainReply → AfterCall
plain_outcome state reply = record { state = plain_state state; reply = plain_reply reply }

-- The model's state and reply after an allowed call on the plain program's machine in this state.
abbrev pub allowed_outcome : PlainMachine → PlainState → Call → AfterCall
allowed_outcome m state call = do_call (plain_machine m) (plain_state state) call

-- If a translated position is mapped, its physical address, the frame's start plus the offset, is below 2^64.
abbrev pub CanAdd : Translated → Type 0
CanAdd NotMapped = Unit {0}
CanAdd (Mapped size frame offset given) = frame + offset < 2 ^ 64
