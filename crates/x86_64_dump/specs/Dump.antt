-- Dump: the words of physical memory in a file, located by its segments. A file is the list of its bytes.
-- System V ABI, "Program Header"; its AMD64 supplement.
use Rattle.std.specs.Prelude.{ℕ, ◌+◌, ◌-◌, ◌*◌, ◌^◌, ◌==◌, ◌&&◌, Bool, bit_and, not, cond, List, length, map, nat_le, nat_lt, Option, None}
use Rattle.std.specs.List.{find, list_any, range_with_len}
use Rattle.std.specs.Option.{option_map}
use Rattle.x86_64_model.specs.Entry.{is_frame}
use Rattle.x86_64_model.specs.Memory.{Words}
use Rattle.x86_64_dump.specs.Numbers.{u32_at, u64_at}
use Rattle.x86_64_dump.specs.Segments.{is_memory}
use Rattle.x86_64_dump.specs.declared.formats.Format.{Format}
use Rattle.x86_64_dump.specs.declared.kernel_text.KernelText.{KernelText}
use Rattle.x86_64_dump.specs.declared.segment.Segment.{Segment}

-- The segment that the program header at an offset of the file describes.
unfoldable pub segment_at : (file : List ℕ) → (offset : ℕ) → Segment
segment_at file offset = record { kind = u32_at file offset; offset = u64_at file (offset + 8); address = u64_at file (offset + 24); size = u64_at file (offset + 32) }

-- The segments that `count` program headers describe, which stand one after the other from an offset of the file on. Each header
-- has 56 bytes.
abbrev pub segments_at : (file : List ℕ) → (offset count : ℕ) → List Segment
segments_at file offset count = map (λ i. segment_at file (offset + 56 * i)) (range_with_len 0 count)

-- The offset in the file of a physical address that is in the segment.
abbrev pub offset_in : Segment → (address : ℕ) → ℕ
offset_in segment address = segment.offset + (address - segment.address)

-- Whether a segment of memory contains all 4096 bytes of a frame, and a file of this length has them.
abbrev pub has_frame : (file_length frame : ℕ) → Segment → Bool
has_frame file_length frame segment = is_memory segment && nat_le segment.address frame
    && nat_le (frame + 4096) (segment.address + segment.size) && nat_le (offset_in segment frame + 4096) file_length

-- The offset of a frame in a file of this length, by the first of the segments that contains the whole frame, or None.
unfoldable pub frame_offset : (file_length : ℕ) → List Segment → (frame : ℕ) → Option ℕ
frame_offset file_length segments frame = option_map (λ segment. offset_in segment frame) (find (has_frame file_length frame) segments)

-- The word, with the bits of a mask cleared.
abbrev pub without_bits : (bits word : ℕ) → ℕ
without_bits bits word = bit_and word (2 ^ 64 - 1 - bits)

-- The 512 words of the 4096 bytes from an offset of the file on, with the bits of a mask cleared in each of them.
unfoldable pub words_at : (cleared : ℕ) → (file : List ℕ) → (offset : ℕ) → List ℕ
words_at cleared file offset = map (λ i. without_bits cleared (u64_at file (offset + 8 * i))) (range_with_len 0 512)

-- The contents of a dump: the bytes of the file, its format, its segments, the texts of VMCOREINFO in memory that describe the
-- kernel's root, and the bits that are cleared in each word that is read.
pub record Contents : Type 0 where
  pub file : List ℕ
  pub format : Format
  pub segments : List Segment
  pub texts : List KernelText
  pub cleared : ℕ

-- The 512 words of each frame that has all its bytes in a segment and in the file. Other frames have none.
unfoldable pub words_of_dump : Contents → Words
words_of_dump dump frame = cond (is_frame frame) (option_map (words_at dump.cleared dump.file) (frame_offset (length dump.file) dump.segments frame)) None

-- Whether a segment that has bytes ends after a file of this length.
abbrev pub is_short : (file_length : ℕ) → List Segment → Bool
is_short file_length segments = list_any (λ segment. not (segment.size == 0) && nat_lt file_length (segment.offset + segment.size)) segments
