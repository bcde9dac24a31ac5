-- A reply determines the machine's reply to the call, except for the frame in the machine's reply to a map or to a change of
-- flags.
use Rattle.std.specs.Prelude.{◌≡◌, Some}
use Rattle.x86_64_model.specs.Call as machine
use Rattle.x86_64_model.specs.Call.{Call, Unmap, TranslatePage}
use Rattle.x86_64_model.specs.Refusal.{Done}
use Rattle.x86_64.specs.Replies.{Reply, reply_of}

-- The machine's reply with frame 0 in place of the frame in the answer of an accepted call.
abbrev pub without_frame : machine.Reply → machine.Reply
without_frame (machine.Answered (Done frame)) = machine.Answered (Done 0)
without_frame r = r

-- The part of the machine's reply to a call that the mapper's reply determines: all but the frame in the reply to a map or to a
-- change of flags.
abbrev pub told_part : Call → machine.Reply → machine.Reply
told_part (Unmap level page) r = r
told_part (TranslatePage level page) r = r
told_part call r = without_frame r

-- If one reply of a mapper stands for two replies of the machine to a call, these agree in the part that it determines.
abbrev pub RepliesTell : Type 0
RepliesTell = (call : Call) (r s : machine.Reply) (reply : Reply) → reply_of call r ≡ Some reply → reply_of call s ≡ Some reply → told_part call r ≡ told_part call s
