-- The lines of the input, what is left of them, and what is read of one.
use Rattle.std.specs.Prelude.{◌≡◌, ◌≤◌, ◌<◌, ◌^◌, ◌==◌, ◌&&◌, ℕ, ⊤, suc, nat_le, take, slice_range, cond, Bool, List, [], ◌∷◌, length, Option, Some, None}
use Rattle.std.specs.Io.KnownBytes.{Consumes, IsAtEnd, Keeps, prepend_known}
use Rattle.std.specs.List.{list_all, slice_split}
use Rattle.pagetab_engine.specs.Commands.{Statement}
use Rattle.pagetab_engine.specs.Fields.{is_space, has_bytes}
use Rattle.pagetab_engine.specs.Statements.{statement_in}
use Rattle.pagetab_engine.specs.declared.ending.Fault.{Fault}
use Rattle.pagetab_engine.specs.declared.ending.Fault.TheVariants.{BadLine, Input}
use Rattle.pagetab_engine.specs.declared.lines.Line.{Line}
use Rattle.pagetab_engine.specs.declared.lines.Line.TheVariants.{Text, TooLong, End}
use Rattle.pagetab_engine.specs.declared.lines.Lines.{Lines}

-- Whether a byte is a line feed.
abbrev pub is_line_feed : ℕ → Bool
is_line_feed byte = byte == 10

-- The parts between line feeds that are lines: all but the one after the last line feed, if that is empty.
abbrev pub without_empty_last : List (List ℕ) → List (List ℕ)
without_empty_last [] = []
without_empty_last (part ∷ []) = cond (has_bytes part) (part ∷ []) []
without_empty_last (part ∷ other ∷ parts) = part ∷ without_empty_last (other ∷ parts)

-- The lines of an input: its parts between line feeds. The last line may lack its own.
unfoldable pub lines_of : List ℕ → List (List ℕ)
lines_of input = without_empty_last (slice_split is_line_feed input)

-- Whether a line has at most 256 spaces, and nothing else.
abbrev pub is_blank : List ℕ → Bool
is_blank line = nat_le (length line) 256 && list_all is_space line

-- A line without its line feed, and its number among all lines.
pub record Numbered : Type 0 where
  pub number : ℕ
  pub line : List ℕ

-- The lines that aren't blank with their numbers, if the first of all lines has this number. Blank lines count.
abbrev pub numbered_from : (number : ℕ) → List (List ℕ) → List Numbered
numbered_from number [] = []
numbered_from number (line ∷ lines) =
    cond (is_blank line) (numbered_from (suc number) lines)
    (record { number = number; line = line } ∷ numbered_from (suc number) lines)

-- The bytes that are not taken yet, if they are known: those in the buffer, followed by those that the reader has left.
abbrev pub bytes_left : {R : Type 0} → (remaining : R → Option (List ℕ)) → Lines R → Option (List ℕ)
bytes_left remaining lines = prepend_known (slice_range lines.buffer lines.at lines.end) (remaining lines.reader.now)

-- The bytes may be those of an input: they are the known ones, or any if these aren't known.
abbrev pub IsInput : (known : Option (List ℕ)) → (bytes : List ℕ) → Type 0
IsInput None bytes = ⊤
IsInput (Some known) bytes = bytes ≡ known

-- These may be the lines that are left and aren't blank, with their numbers.
abbrev pub MayBeLeft : {R : Type 0} → (remaining : R → Option (List ℕ)) → Lines R → List Numbered → Type 0
MayBeLeft remaining lines numbered = (bytes : List ℕ) × IsInput (bytes_left remaining lines) bytes × (numbered ≡ numbered_from (suc lines.number) (lines_of bytes))

-- Some of the possible values satisfy P.
abbrev pub ForSome : {A : Type 0} → (may_be : A → Type 0) → (A → Type 0) → Type 0
ForSome may_be P = (all : _) × may_be all × P all

-- Whatever may be left after, something may have been left before that is related to it by P.
abbrev pub TracesBack : {A : Type 0} → (before after : A → Type 0) → (A → A → Type 0) → Type 0
TracesBack before after P = (rest : _) → after rest → ForSome before (λ all. P all rest)

-- A byte was taken from the front of known bytes, or there was none to take.
abbrev pub TakesByte : (old new : Option (List ℕ)) → Option ℕ → Type 0
TakesByte old new (Some byte) = Consumes old new (byte ∷ [])
TakesByte old new None = IsAtEnd old × Keeps old new

-- What was read of a line is a text of at most 256 bytes, or no text.
abbrev pub FitsLine : Line → Type 0
FitsLine (Text length) = length ≤ 256
FitsLine TooLong = ⊤
FitsLine End = ⊤

-- The first line of the bytes is this one, and the rest has the lines after it.
abbrev pub TakesLine : (bytes line rest : List ℕ) → Type 0
TakesLine bytes line rest = lines_of bytes ≡ line ∷ lines_of rest

-- The first of the lines has more than 256 bytes.
abbrev pub BeginsTooLong : List (List ℕ) → Type 0
BeginsTooLong [] = ⊥
BeginsTooLong (line ∷ lines) = ¬ (length line ≤ 256)

-- This was read of the next line of the bytes: its length, if `line` begins with its text, that it is too long, or that there is
-- none.
abbrev pub ReadsLine : (bytes rest line : List ℕ) → Line → Type 0
ReadsLine bytes rest line (Text length) = TakesLine bytes (take length line) rest
ReadsLine bytes rest line TooLong = BeginsTooLong (lines_of bytes)
ReadsLine bytes rest line End = lines_of bytes ≡ []

-- The first line has this number and is this statement, and the lines after it are left.
abbrev pub TakesStatement : (levels places : ℕ) (lines : List Numbered) (number : ℕ) (rest : List Numbered) → Statement → Type 0
TakesStatement levels places lines number rest statement =
    (line : List ℕ) × (lines ≡ record { number = number; line = line } ∷ rest) × (statement_in levels places line ≡ Some statement)

-- This was read of the lines: the first one's statement, with this number, or that there is none.
abbrev pub ReadsStatement : (levels places : ℕ) (lines : List Numbered) (number : ℕ) (rest : List Numbered) → Option Statement → Type 0
ReadsStatement levels places lines number rest (Some statement) = TakesStatement levels places lines number rest statement
ReadsStatement levels places lines number rest None = lines ≡ []

-- The first line has this number and is bad.
abbrev pub BeginsBad : (levels places : ℕ) (lines : List Numbered) (number : ℕ) → Type 0
BeginsBad levels places [] number = ⊥
BeginsBad levels places (first ∷ lines) number = (first.number ≡ number) × (statement_in levels places first.line ≡ None)

-- The fault is why no statement of these lines was read: the first one is bad, or a read failed.
abbrev pub ExplainsRead : (levels places : ℕ) (lines : List Numbered) → Fault → Type 0
ExplainsRead levels places lines (BadLine number) = BeginsBad levels places lines number
ExplainsRead levels places lines Input = ⊤
ExplainsRead levels places lines fault = ⊥

-- One line or more was counted, and the count still fits in 64 bits.
abbrev pub IsCounted : (old new : ℕ) → Type 0
IsCounted old new = (old < new) × (new < 2 ^ 64)

-- The fault is that the line with this number is bad, or that a read failed.
abbrev pub IsReadFault : (number : ℕ) → Fault → Type 0
IsReadFault number (BadLine line) = line ≡ number
IsReadFault number Input = ⊤
IsReadFault number fault = ⊥
