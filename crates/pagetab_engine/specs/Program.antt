-- What the program writes and how it ends, as a function of its arguments and the bytes of its input.
use Rattle.std.specs.Prelude.{◌≡◌, ℕ, ⊤, Bool, false, IsTrue, IsSome, cond, List, [], ◌∷◌, ◌++◌, flat_map, map, Option, Some, None}
use Rattle.std.specs.Io.KnownBytes.{Appends}
use Rattle.pagetab_engine.specs.Arguments.{arguments_in, count, levels_of}
use Rattle.pagetab_engine.specs.Commands.{Statement, Image, Asks}
use Rattle.pagetab_engine.specs.Image.{Loaded, first_situation, fits, is_loadable, load, nothing_loaded}
use Rattle.pagetab_engine.specs.Lines.{Numbered, numbered_from, lines_of}
use Rattle.pagetab_engine.specs.Modes.{mode_reaches}
use Rattle.pagetab_engine.specs.Reply.{Reply}
use Rattle.pagetab_engine.specs.Situation.{Situation, command_after, command_reply}
use Rattle.pagetab_engine.specs.Statements.{statement_in}
use Rattle.pagetab_engine.specs.Texts.{reply_line}
use Rattle.pagetab_engine.specs.declared.arguments.Arguments.{Arguments}
use Rattle.pagetab_engine.specs.declared.arguments.Mode.{Mode}
use Rattle.pagetab_engine.specs.declared.ending.Ending.{Ending}
use Rattle.pagetab_engine.specs.declared.ending.Ending.TheVariants.{Done, Stopped}
use Rattle.pagetab_engine.specs.declared.ending.Fault.TheVariants.{BadLine, InvalidHierarchy, OutOfMemory, Input, Output, Usage}

-- What a run writes, a line for each reply, and its ending, if no memory allocation, read or write fails.
pub record Transcript : Type 0 where
  pub replies : List Reply
  pub ending : Ending

-- The transcript with no reply and this ending.
abbrev pub ending_alone : Ending → Transcript
ending_alone ending = record { replies = []; ending = ending }

-- The transcript of a bad line, by its number.
abbrev pub stops_at : (number : ℕ) → Transcript
stops_at number = ending_alone (Stopped (BadLine number))

-- A transcript behind a reply, if there is one.
abbrev pub behind_reply : Option Reply → Transcript → Transcript
behind_reply None rest = rest
behind_reply (Some reply) rest = record { replies = reply ∷ rest.replies; ending = rest.ending }

-- ---- the lines

-- Each of these lines as its number and the statement that it is, if it is one for this number of levels and of places.
abbrev pub statements_in : (levels places : ℕ) → List Numbered → List (ℕ × Option Statement)
statements_in levels places lines = map (λ line. (line.number, statement_in levels places line.line)) lines

-- The transcript of the lines after the image, by their numbers and statements. Each command gets its reply. Other lines are bad.
abbrev pub served_transcript : List (ℕ × Option Statement) → Situation → Transcript
served_transcript [] s = ending_alone Done
served_transcript ((number, Some (Asks command)) ∷ lines) s = behind_reply (command_reply s command) (served_transcript lines (command_after s command))
served_transcript ((number, other) ∷ lines) s = stops_at number

-- The transcript of a complete image, which is tested, and of the lines after it, by their numbers and statements.
abbrev pub tested_transcript : Mode → Loaded → List (ℕ × Option Statement) → Transcript
tested_transcript mode loaded lines = cond (fits mode loaded) (served_transcript lines (first_situation mode loaded)) (ending_alone (Stopped InvalidHierarchy))

-- The transcript of the lines of an image and those behind them, by their numbers and statements. A line is bad if it is no
-- statement. One of the image is loaded, and is bad if it can't be. The first command, or the end of the lines, ends the image.
abbrev pub image_transcript : Mode → List (ℕ × Option Statement) → Loaded → Transcript
image_transcript mode ((number, None) ∷ lines) loaded = stops_at number
image_transcript mode ((number, Some (Image line)) ∷ lines) loaded = cond (is_loadable loaded line) (image_transcript mode lines (load loaded line)) (stops_at number)
image_transcript mode lines loaded = tested_transcript mode loaded lines

-- ---- the run

-- The number of levels of tables in the arguments' mode.
abbrev pub levels_in : Arguments → ℕ
levels_in arguments = count (levels_of arguments.mode)

-- Whether a run with these arguments reads its input: there are some, and the mapper reaches each place.
abbrev pub is_reading : Option Arguments → Bool
is_reading None = false
is_reading (Some arguments) = mode_reaches arguments.mode arguments.places

-- The transcript of a run with these arguments, if there are any, on the bytes of its input.
abbrev pub transcript : Option Arguments → (input : List ℕ) → Transcript
transcript None input = ending_alone (Stopped Usage)
transcript (Some arguments) input = cond (mode_reaches arguments.mode arguments.places)
    (image_transcript arguments.mode (statements_in (levels_in arguments) arguments.places (numbered_from 1 (lines_of input))) (nothing_loaded arguments.places)) (ending_alone (Stopped Usage))

-- ---- what is written

-- The bytes are a first part of the line, which may be empty, but not all of it.
abbrev pub IsFrontPart : (front line : List ℕ) → Type 0
IsFrontPart front line = (byte : ℕ) × (left : List ℕ) × (line ≡ front ++ byte ∷ left)

-- The first of these replies, none to all of them, and nothing else are written in order as lines.
abbrev pub WritesFirst : List Reply → (before after : Option (List ℕ)) → Type 0
WritesFirst replies before after = (first : List Reply) × (left : List Reply) × (replies ≡ first ++ left) × Appends before after (flat_map reply_line first)

-- The first of these replies are written as lines, and of the next one's line only a first part.
abbrev pub WritesPart : List Reply → (before after : Option (List ℕ)) → Type 0
WritesPart replies before after = (first : List Reply) × (cut : Reply) × (left : List Reply) × (front : List ℕ)
    × (replies ≡ first ++ cut ∷ left) × IsFrontPart front (reply_line cut) × Appends before after (flat_map reply_line first ++ front)

-- The transcript's replies are written in order as lines, and its ending is this one. If a memory allocation, a read or a write
-- failed, only the first replies are written, and a first part of the one whose write failed.
abbrev pub IsTold : Transcript → (before after : Option (List ℕ)) → Ending → Type 0
IsTold whole before after (Stopped OutOfMemory) = WritesFirst whole.replies before after
IsTold whole before after (Stopped Input) = WritesFirst whole.replies before after
IsTold whole before after (Stopped Output) = WritesPart whole.replies before after
IsTold whole before after ending = (ending ≡ whole.ending) × Appends before after (flat_map reply_line whole.replies)

-- A memory allocation fails only if there are arguments, and a read only if the input is read.
abbrev pub CanEnd : Option Arguments → Ending → Type 0
CanEnd arguments (Stopped OutOfMemory) = IsSome arguments
CanEnd arguments (Stopped Input) = IsTrue (is_reading arguments)
CanEnd arguments ending = ⊤

-- A run with these words and this input writes its transcript and has the transcript's ending, unless a memory allocation, a read
-- or a write fails.
pub record Runs (words : List (List ℕ)) (input : List ℕ) (before after : Option (List ℕ)) (ending : Ending) : Type 0 where
  pub may_end : CanEnd (arguments_in words) ending
  pub told : IsTold (transcript (arguments_in words) input) before after ending
