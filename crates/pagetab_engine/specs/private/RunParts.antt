-- The parts of a run, for the contracts of the engine's functions.
use Rattle.std.specs.Prelude.{◌≡◌, ◌<◌, ◌*◌, ◌^◌, ℕ, ⊤, true, if◌then◌else◌, nat_lt, List, [], ◌∷◌, ◌++◌, flat_map, Option, Some, None, Result, Ok, Err}
use Rattle.std.specs.FinMap.{get}
use Rattle.std.specs.Io.KnownBytes.{Appends}
use Rattle.x86_64_model.specs.Machine.{State}
use Rattle.x86_64_tables.specs.PageTable.{zero_words}
use Rattle.pagetab_engine.specs.Commands.{Command, Call, Show, Statement, Asks}
use Rattle.pagetab_engine.specs.Frames.{IsLoadable, memory_loaded, free_after}
use Rattle.pagetab_engine.specs.Hierarchy.{hierarchy_state, BothAnswer, HasCopy, KeepsHierarchy, KeepsFreeWords}
use Rattle.pagetab_engine.specs.Image.{Loaded}
use Rattle.pagetab_engine.specs.Lines.{Numbered, numbered_from, lines_of}
use Rattle.pagetab_engine.specs.Modes.{first_memory, is_refused}
use Rattle.pagetab_engine.specs.Program.{Transcript, IsFrontPart, IsTold, image_transcript, served_transcript, statements_in, tested_transcript}
use Rattle.pagetab_engine.specs.Reply.{Reply, Answered}
use Rattle.pagetab_engine.specs.Situation.{Situation, call_back, call_step, command_reply, situation}
use Rattle.pagetab_engine.specs.Texts.{reply_line}
use Rattle.pagetab_engine.specs.declared.arguments.Arguments.{Arguments}
use Rattle.pagetab_engine.specs.declared.ending.Ending.{Ending}
use Rattle.pagetab_engine.specs.declared.ending.Ending.TheVariants.{Done, Stopped}
use Rattle.pagetab_engine.specs.declared.ending.Fault.{Fault}
use Rattle.pagetab_engine.specs.declared.ending.Fault.TheVariants.{OutOfMemory, Output}
use Rattle.pagetab_engine.specs.declared.frames.Frames.{Frames}
use Rattle.pagetab_engine.specs.declared.hierarchy.Hierarchy.{Hierarchy}
use Rattle.pagetab_engine.specs.declared.statement.ImageLine.{ImageLine}

-- ---- the commands

-- What commands on a hierarchy act on.
abbrev pub situation_of : Hierarchy → Situation
situation_of hierarchy = situation hierarchy.mode hierarchy.frames.memory hierarchy.frames.pool.frames

-- The command only reads: it isn't a call, or it is one that no mapper executes.
abbrev pub OnlyReads : Hierarchy → Command → Type 0
OnlyReads hierarchy (Call call) = is_refused hierarchy.mode call ≡ true
OnlyReads hierarchy asked = ⊤

-- The state after a command: the machine's after a call, and unchanged otherwise.
abbrev pub command_state : Hierarchy → Command → State
command_state hierarchy (Call call) = (call_step (situation_of hierarchy) call).state
command_state hierarchy asked = hierarchy_state hierarchy

-- The frames that a command returns, which only a call may do.
abbrev pub command_back : Hierarchy → Command → List ℕ
command_back hierarchy (Call call) = call_back (situation_of hierarchy) call
command_back hierarchy asked = []

-- In a pair the recursive mapper has the same reply to a call, unless no mapper executes it.
abbrev pub IsToldByBoth : (before : Hierarchy) → Command → Reply → (after : Hierarchy) → Type 0
IsToldByBoth before (Call call) (Answered answer) after = BothAnswer before.mode call answer before.twin after.twin
IsToldByBoth before asked told after = ⊤

-- If the command shows a slot, the slot is one of a frame below 2^52.
abbrev pub IsShown : Command → Type 0
IsShown (Show slot) = (slot.place * 4096 < 2 ^ 52) × (slot.index < 512)
IsShown asked = ⊤

-- A command has this reply, and this effect on the hierarchy, or on both hierarchies in a pair.
pub record AnswersCommand (command : Command) (before : Hierarchy) (answer : Reply) (after : Hierarchy) : Type 0 where
  pub reply : IsShown command → command_reply (situation_of before) command ≡ Some answer
  pub state : hierarchy_state after ≡ command_state before command
  pub reads : OnlyReads before command → after ≡ before
  pub free : KeepsFreeWords before (command_back before command) after
  pub keeps : KeepsHierarchy before after
  pub both : IsToldByBoth before command answer after

-- ---- the image

-- What was loaded into frames.
abbrev pub loaded_of : Frames → Loaded
loaded_of frames = record { memory = frames.memory; free = frames.pool.frames; limit = frames.pool.limit }

-- The hierarchy that the program begins with: all words are 0, and no frame is free.
pub record IsEmpty (arguments : Arguments) (hierarchy : Hierarchy) : Type 0 where
  pub mode : hierarchy.mode ≡ arguments.mode
  pub memory : (place : ℕ) → get hierarchy.frames.memory place ≡ (if nat_lt place arguments.places then Some zero_words else None)
  pub free : hierarchy.frames.pool.frames ≡ []
  pub limit : hierarchy.frames.pool.limit ≡ arguments.places
  pub copy : HasCopy hierarchy

-- A line of the image sets its word, or adds its frame behind the other free ones; in a pair the other mapper gets it too.
pub record Loads (image : ImageLine) (before after : Hierarchy) : Type 0 where
  pub accepted : IsLoadable before.frames image
  pub memory : after.frames.memory ≡ memory_loaded before.frames image
  pub free : after.frames.pool.frames ≡ free_after before.frames image
  pub limit : after.frames.pool.limit ≡ before.frames.pool.limit
  pub mode : after.mode ≡ before.mode
  pub copy : HasCopy after

-- The hierarchy of the first command; in a pair the memory of the direct mapper lacks the self-entry.
pub record IsFirst (image first : Hierarchy) : Type 0 where
  pub memory : first.frames.memory ≡ first_memory image.mode image.frames.memory
  pub pool : first.frames.pool ≡ image.frames.pool
  pub mode : first.mode ≡ image.mode
  pub twin : first.twin ≡ image.twin

-- ---- the run

-- The transcript of lines that are read into a hierarchy.
abbrev pub read_into : (levels places : ℕ) → (lines : List Numbered) → Hierarchy → Transcript
read_into levels places lines hierarchy = image_transcript hierarchy.mode (statements_in levels places lines) (loaded_of hierarchy.frames)

-- The input is read into this hierarchy, and its transcript is written.
abbrev pub RunsFrom : (levels places : ℕ) → Hierarchy → (input : List ℕ) → (before after : Option (List ℕ)) → Ending → Type 0
RunsFrom levels places hierarchy input before after ending = IsTold (read_into levels places (numbered_from 1 (lines_of input)) hierarchy) before after ending

-- The ending of a run with this result: done, or stopped at the fault.
abbrev pub ending_of : Result (Unit {0}) Fault → Ending
ending_of (Ok done) = Done
ending_of (Err fault) = Stopped fault

-- The transcript of the lines is that of those left, after the ones before were loaded.
abbrev pub Follows : (levels places : ℕ) (lines : List Numbered) (before : Hierarchy) (left : List Numbered) (after : Hierarchy) → Type 0
Follows levels places lines before left after = read_into levels places lines before ≡ image_transcript before.mode (statements_in levels places left) (loaded_of after.frames)

-- The first command, if there is one, and the statements of the lines behind it, with their numbers. The first has the number 0,
-- since it is not bad, so that its number is never told.
abbrev pub with_first : (levels places : ℕ) → (first : Option Command) → (behind : List Numbered) → List (ℕ × Option Statement)
with_first levels places None behind = []
with_first levels places (Some command) behind = (0, Some (Asks command)) ∷ statements_in levels places behind

-- If there is a first command, it shows a slot of a frame below 2^52, if it shows one.
abbrev pub IsFirstShown : Option Command → Type 0
IsFirstShown None = ⊤
IsFirstShown (Some command) = IsShown command

-- The lines begin with an image, which was loaded, and those behind the first command are left.
abbrev pub LoadsImage : (levels places : ℕ) → (lines : List Numbered) → (before : Hierarchy) → (first : Option Command) → (behind : List Numbered) → (after : Hierarchy) → Type 0
LoadsImage levels places lines before first behind after = IsFirstShown first × (read_into levels places lines before ≡ tested_transcript before.mode (loaded_of after.frames) (with_first levels places first behind))

-- The image ends at a bad line, or at a read that failed, and nothing is written.
abbrev pub StopsInImage : (levels places : ℕ) (lines : List Numbered) → Hierarchy → Fault → Type 0
StopsInImage levels places lines before fault = (held : Option (List ℕ)) → IsTold (read_into levels places lines before) held held (Stopped fault)

-- A command was executed, and its reply written as a line.
abbrev pub Replies : Command → (before after : Hierarchy) → (old new : Option (List ℕ)) → Type 0
Replies command before after old new = (reply : Reply) × AnswersCommand command before reply after × Appends old new (reply_line reply)

-- A first part of the line was written, but not all of it.
abbrev pub AppendsFront : (before after : Option (List ℕ)) → (line : List ℕ) → Type 0
AppendsFront before after line = (front : List ℕ) × IsFrontPart front line × Appends before after front

-- A command was executed, and the write of its reply failed.
abbrev pub IsUnwritten : Command → (before after : Hierarchy) → (old new : Option (List ℕ)) → Type 0
IsUnwritten command before after old new =
    (reply : Reply) × AnswersCommand command before reply after × AppendsFront old new (reply_line reply)

-- The program was forced to stop at a command: memory allocation failed and nothing more is written, or a write failed.
abbrev pub CommandStops : Command → (before after : Hierarchy) → (old new : Option (List ℕ)) → Fault → Type 0
CommandStops command before after old new OutOfMemory = Appends old new []
CommandStops command before after old new Output = IsUnwritten command before after old new
CommandStops command before after old new fault = ⊥

-- The first command and the lines behind it were served.
abbrev pub Served : (levels places : ℕ) → (first : Command) → (behind : List Numbered) → Hierarchy → (old new : Option (List ℕ)) → Ending → Type 0
Served levels places first behind before old new ending = IsShown first → IsTold (served_transcript (with_first levels places (Some first) behind) (situation_of before)) old new ending

-- A transcript behind these replies.
abbrev pub behind_replies : List Reply → Transcript → Transcript
behind_replies replies rest = record { replies = replies ++ rest.replies; ending = rest.ending }

-- The first command and the lines up to those left were served.
abbrev pub ServedUntil : (levels places : ℕ) → (first : Command) → (behind : List Numbered) → (before : Hierarchy) → (old new : Option (List ℕ)) → (left : List Numbered) → (after : Hierarchy) → Type 0
ServedUntil levels places first behind before old new left after = IsShown first → (replies : List Reply) × Appends old new (flat_map reply_line replies)
    × (served_transcript (with_first levels places (Some first) behind) (situation_of before) ≡ behind_replies replies (served_transcript (statements_in levels places left) (situation_of after)))
