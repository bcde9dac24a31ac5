-- Notes: the notes of a core file, by their kinds. Linux, elf(5), "Notes (Nhdr)": a note is the size of its name, the size of its
-- descriptor, a type, the name and the descriptor. The first three have four bytes each, and the last two are each padded to a
-- multiple of four bytes, also in 64-bit files.
use Rattle.std.specs.Prelude.{ℕ, zero, suc, ◌+◌, ◌-◌, ◌*◌, ◌/◌, ◌++◌, ◌==◌, ◌||◌, Bool, true, false, not, codes, cond, if◌then◌else◌, min, List, [], ◌∷◌, length, nat_lt, nat_le, Result, Ok, Err}
use Rattle.std.specs.List.{filter, flat_map, take_while}
use Rattle.std.specs.Str.{bytes_eq}
use Rattle.x86_64_dump.specs.Numbers.{u32_at, u64_at}
use Rattle.x86_64_dump.specs.Dump.{Contents}
use Rattle.x86_64_dump.specs.declared.segment.Segment.{Segment}
use Rattle.x86_64_dump.specs.Source.{bytes_at}
use Rattle.x86_64_dump.specs.declared.note.Note.{Note}
use Rattle.x86_64_dump.specs.declared.note.NoteKind.{NoteKind}
use Rattle.x86_64_dump.specs.declared.note.NoteKind.TheVariants.{Qemu, VmCoreInfo, VirtualBox, Other}
use Rattle.x86_64_dump.specs.declared.error.Fault.{Fault}
use Rattle.x86_64_dump.specs.declared.error.Fault.TheVariants as faults

-- The size, rounded up to a multiple of four.
abbrev pub padded : (size : ℕ) → ℕ
padded size = (size + 3) / 4 * 4

-- The kind of the notes with a name, which ends with its NUL.
unfoldable pub kind_named : (name : List ℕ) → NoteKind
kind_named name =
    if bytes_eq name (codes "QEMU" ++ 0 ∷ []) then Qemu
    else if bytes_eq name (codes "VMCOREINFO" ++ 0 ∷ []) then VmCoreInfo
    else if bytes_eq name (codes "VBCPU" ++ 0 ∷ []) then VirtualBox
    else Other

-- Whether two kinds of notes are the same.
abbrev pub is_kind : NoteKind → NoteKind → Bool
is_kind Qemu Qemu = true
is_kind VmCoreInfo VmCoreInfo = true
is_kind VirtualBox VirtualBox = true
is_kind Other Other = true
is_kind _ _ = false

-- The kind of the note at an offset of the file, by its name. The longest name of a known kind has eleven bytes.
unfoldable pub kind_at : (file : List ℕ) → (at : ℕ) → NoteKind
kind_at file at = if nat_lt 11 (u32_at file at) then Other else kind_named (bytes_at file (at + 12) (u32_at file at))

-- The note at an offset of the file, whatever its bytes are.
unfoldable pub note_at : (file : List ℕ) → (at : ℕ) → Note
note_at file at = record {
  kind = kind_at file at;
  offset = at + 12 + padded (u32_at file at);
  size = u32_at file (at + 4);
  span = 12 + padded (u32_at file at) + padded (u32_at file (at + 4));
}

-- The `count` notes that stand one after the other from an offset of the file on, whatever the bytes are.
abbrev pub notes_from : (file : List ℕ) → (at count : ℕ) → List Note
notes_from file at zero = []
notes_from file at (suc count) = note_at file at ∷ notes_from file (at + (note_at file at).span) count

-- Whether a note's descriptor ends at an offset of the file or before it.
abbrev pub note_ends_by : (end : ℕ) → Note → Bool
note_ends_by end note = nat_le (note.offset + note.size) end

-- The notes of a kind in the part of the file from `start` to `end`, up to the first note that doesn't end in the part. A note
-- has at least twelve bytes.
unfoldable pub notes_between : NoteKind → (file : List ℕ) → (start end : ℕ) → List Note
notes_between kind file start end = filter (λ note. is_kind note.kind kind) (take_while (note_ends_by end) (notes_from file start ((end - start) / 12)))

-- The number of bytes of notes that a segment has in a file of this length, which is 0 for segments of other kinds.
abbrev pub notes_size : (file_length : ℕ) → Segment → ℕ
notes_size file_length segment = cond (segment.kind == 4) (min segment.size (file_length - segment.offset)) 0

-- The notes of a kind in a segment, in order, as far as the file has its bytes.
abbrev pub notes_in : NoteKind → (file : List ℕ) → Segment → List Note
notes_in kind file segment = notes_between kind file segment.offset (segment.offset + notes_size (length file) segment)

-- The longest front part of a list whose sizes add up to at most the room.
abbrev pub fitting : {A : Type 0} → (room : ℕ) → (size : A → ℕ) → List A → List A
fitting room size [] = []
fitting room size (x ∷ xs) = cond (nat_le (size x) room) (x ∷ fitting (room - size x) size xs) []

-- The notes of a kind in a dump, in order. Segments of notes count as long as they have together no more bytes than the file, so
-- all segments count if they don't overlap.
abbrev pub notes_of : NoteKind → Contents → List Note
notes_of kind dump = flat_map (notes_in kind dump.file) (fitting (length dump.file) (notes_size (length dump.file)) dump.segments)

-- The notes of processors that QEMU wrote into a dump, in order.
abbrev pub processors_of : Contents → List Note
processors_of dump = notes_of Qemu dump

-- Whether a dump has notes of processors that VirtualBox wrote.
abbrev pub is_of_virtualbox : Contents → Bool
is_of_virtualbox dump = not (length (notes_of VirtualBox dump) == 0)

-- Whether a dump has notes of processors that QEMU wrote, or Linux's note VMCOREINFO.
abbrev pub is_noted : Contents → Bool
is_noted dump = not (length (notes_of Qemu dump) == 0) || not (length (notes_of VmCoreInfo dump) == 0)

-- Whether the register of eight bytes at the offset `at` of a note's descriptor ends after the descriptor, or after the file.
abbrev pub is_note_cut : (file_length : ℕ) → Note → (at : ℕ) → Bool
is_note_cut file_length note at = nat_lt note.size (at + 8) || nat_lt file_length (note.offset + (at + 8))

-- The fault of a note that is cut before the end of the register at the offset `at` of its descriptor.
abbrev pub note_cut : Note → (at : ℕ) → Fault
note_cut note at = faults.NoteCut note.offset note.size (at + 8)

-- The register of eight bytes at the offset `at` of a note's descriptor, or the fault that the note is cut before its end.
unfoldable pub register_of : (file : List ℕ) → Note → (at : ℕ) → Result ℕ Fault
register_of file note at = if is_note_cut (length file) note at then Err (note_cut note at) else Ok (u64_at file (note.offset + at))
