-- What commands act on, and what they do to it.
use Rattle.std.specs.Prelude.{◌*◌, ℕ, cond, List, [], map, Option, Some, option_map}
use Rattle.x86_64_model.specs.Call as model
use Rattle.x86_64_model.specs.Layout.{Layout}
use Rattle.x86_64_model.specs.Machine.{Machine, State}
use Rattle.x86_64_model.specs.Memory.{Memory, Words, identity_places, word, words_of}
use Rattle.x86_64_model.specs.PageWalk.{page_walk}
use Rattle.x86_64_model.specs.Path.{indices}
use Rattle.x86_64_model.specs.Flushing.{freed_by}
use Rattle.x86_64.specs.Pairs.{put_first}
use Rattle.x86_64.specs.Replies.{Reply as CallReply}
use Rattle.x86_64.specs.Runs as runs
use Rattle.x86_64.specs.Runs.{AfterStep}
use Rattle.x86_64.specs.declared.call_values.MapperReply.TheVariants.{NotAllowed}
use Rattle.pagetab_engine.specs.Arguments.{count, levels_of}
use Rattle.pagetab_engine.specs.Commands.{Command, Call, Walk, Show}
use Rattle.pagetab_engine.specs.Commands as command
use Rattle.pagetab_engine.specs.Modes.{is_refused, layout}
use Rattle.pagetab_engine.specs.Reply.{Reply, Answered, Arrival, Word, Pool}
use Rattle.pagetab_engine.specs.TableWords.{words_after}
use Rattle.pagetab_engine.specs.declared.arguments.Mode.{Mode}

-- What commands act on: the mode, the layout of the mapper that executes them, the path map and the free frames, and the word of
-- each frame at each index. In a pair it is the direct mapper's.
pub record Situation : Type 0 where
  pub mode : Mode
  pub layout : Layout
  pub state : State
  pub words : (frame i : ℕ) → ℕ

-- What commands act on in a memory with these free frames.
abbrev pub situation : Mode → Memory → (free : List ℕ) → Situation
situation mode memory free =
    record { mode = mode; layout = layout mode memory; state = runs.state_in (layout mode memory) memory free; words = word (words_of memory identity_places) }

-- The machine that executes calls.
abbrev pub situation_machine : Situation → Machine
situation_machine s = runs.machine_of s.layout put_first

-- The result of a call: the machine's step, or `NotAllowed` with no change if no mapper executes the call.
abbrev pub call_step : Situation → model.Call → AfterStep CallReply
call_step s call = cond (is_refused s.mode call) (record { state = s.state; reply = Some NotAllowed }) (runs.step_by (situation_machine s) s.state call)

-- The frames that a call returns if a mapper executes it: those of the tables that a clean up removes.
abbrev pub call_back : Situation → model.Call → List ℕ
call_back s call = cond (is_refused s.mode call) [] (freed_by s.layout.levels s.state call)

-- A table of 512 words in each frame.
abbrev pub tables_with : (words : ℕ → ℕ → ℕ) → Words
tables_with words frame = Some (map (words frame) indices)

-- The reply to a command. It is the machine's to a call, or else where the page walk arrives from the root in frame 0x1000, the
-- word in the slot, or the free frames. It is `None` if the machine never replies to such a call so.
abbrev pub command_reply : Situation → Command → Option Reply
command_reply s (Call call) = option_map Answered (call_step s call).reply
command_reply s (Walk position) = Some (Arrival (page_walk (count (levels_of s.mode)) (tables_with s.words) 0x1000 position))
command_reply s (Show slot) = Some (Word (s.words (slot.place * 4096) slot.index))
command_reply s command.Pool = Some (Pool s.state.pool)

-- What commands act on after a command: only a call changes it.
abbrev pub command_after : Situation → Command → Situation
command_after s (Call call) = let after = call_step s call in
    record { mode = s.mode; layout = s.layout; state = after.state; words = words_after s.layout after.state (call_back s call) s.words }
command_after s asked = s
