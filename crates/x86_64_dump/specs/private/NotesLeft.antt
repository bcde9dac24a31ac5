-- NotesLeft: the notes that are still to be read.
use Rattle.std.specs.Prelude.{ℕ, zero, suc, ◌+◌, ◌-◌, ◌/◌, cond, List, [], ◌∷◌, ◌++◌, length, nat_le, Bool}
use Rattle.x86_64_dump.specs.Numbers.{u32_at}
use Rattle.x86_64_dump.specs.Notes.{is_kind, padded, note_at, notes_size}
use Rattle.x86_64_dump.specs.declared.segment.Segment.{Segment}
use Rattle.x86_64_dump.specs.declared.note.Note.{Note}
use Rattle.x86_64_dump.specs.declared.note.NoteKind.{NoteKind}

-- Whether the descriptor of the note at an offset of the file ends within the `left` bytes from there on.
unfoldable pub is_whole : (file : List ℕ) → (at left : ℕ) → Bool
is_whole file at left = nat_le (12 + padded (u32_at file at) + u32_at file (at + 4)) left

-- The note, in a list of its own, or no note if it is of another kind.
abbrev pub if_kept : NoteKind → Note → List Note
if_kept kind note = cond (is_kind note.kind kind) (note ∷ []) []

-- The notes of a kind in the `left` bytes of the file from an offset on, up to the first note that isn't whole, among at most
-- `most` notes.
abbrev pub kept_notes : NoteKind → (most : ℕ) → (file : List ℕ) → (at left : ℕ) → List Note
kept_notes kind zero file at left = []
kept_notes kind (suc most) file at left = cond (is_whole file at left)
    (if_kept kind (note_at file at) ++ kept_notes kind most file (at + (note_at file at).span) (left - (note_at file at).span)) []

-- The notes of a kind in a segment of notes, up to the first note that isn't whole.
unfoldable pub notes_left_in : NoteKind → (file : List ℕ) → Segment → List Note
notes_left_in kind file segment = kept_notes kind (notes_size (length file) segment / 12) file segment.offset (notes_size (length file) segment)

-- The notes of a kind in segments, in order, as long as the segments have together at most `room` bytes of notes.
abbrev pub notes_within : NoteKind → (room : ℕ) → (file : List ℕ) → List Segment → List Note
notes_within kind room file [] = []
notes_within kind room file (segment ∷ segments) = cond (nat_le (notes_size (length file) segment) room)
    (notes_left_in kind file segment ++ notes_within kind (room - notes_size (length file) segment) file segments) []
