-- KernelTexts: texts of VMCOREINFO in memory. Linux keeps its text in a page, and in another one behind the head of the note that kdump
-- gets: so a line may begin behind a byte 0. Linux, "kernel/vmcore_info.c", `vmcoreinfo_data` and `vmcoreinfo_note`.
use Rattle.std.specs.Prelude.{ℕ, ◌+◌, ◌-◌, ◌*◌, ◌/◌, ◌%◌, ◌==◌, ◌&&◌, ◌||◌, Bool, false, codes, if◌then◌else◌, min, List, [], ◌∷◌, drop, length, nat_eq, slice_get, Result, Ok, Err}
use Rattle.std.specs.List.{find, flat_map, range_with_len, starts_with}
use Rattle.std.specs.Option.{option_map_or}
use Rattle.x86_64_dump.specs.Dump.{Contents}
use Rattle.x86_64_dump.specs.Notes.{fitting}
use Rattle.x86_64_dump.specs.Segments.{is_memory}
use Rattle.x86_64_dump.specs.Source.{bytes_at}
use Rattle.x86_64_dump.specs.VmCoreInfo.{kernel_of}
use Rattle.x86_64_dump.specs.declared.kernel_text.KernelText.{KernelText}
use Rattle.x86_64_dump.specs.declared.segment.Segment.{Segment}
use Rattle.x86_64_dump.specs.declared.vmcoreinfo.Kernel.{Kernel}
use Rattle.x86_64_dump.specs.declared.vmcoreinfo.KernelFault.{KernelFault}

-- ---- the text in a page

-- Whether the bytes begin as a text of VMCOREINFO does.
unfoldable pub begins_text : (bytes : List ℕ) → Bool
begins_text bytes = starts_with nat_eq bytes (codes "OSRELEASE=")

-- Whether a line may begin behind a byte.
abbrev pub ends_line : (byte : ℕ) → Bool
ends_line byte = byte == 10 || byte == 0

-- Whether a line begins at an offset of a page: at its beginning, or behind a byte that ends a line.
abbrev pub line_begins : (page : List ℕ) → (at : ℕ) → Bool
line_begins page at = at == 0 || option_map_or ends_line (slice_get page (at - 1)) false

-- Whether a text of VMCOREINFO begins at an offset of a page.
abbrev pub text_begins : (page : List ℕ) → (at : ℕ) → Bool
text_begins page at = begins_text (drop at page) && line_begins page at

-- The text in a page: the bytes from the first offset on where it begins, or none.
abbrev pub text_in_page : (page : List ℕ) → List ℕ
text_in_page page = option_map_or (λ at. drop at page) (find (text_begins page) (range_with_len 0 (length page))) []

-- The text at an offset of the file with the kernel that it describes, or no text if it describes none.
abbrev pub text_if : (offset : ℕ) → Result Kernel KernelFault → List KernelText
text_if offset (Ok kernel) = record { offset = offset; kernel = kernel } ∷ []
text_if offset (Err fault) = []

-- The text in the page at an offset of the file, if there is one that describes a kernel.
unfoldable pub page_texts : (offset : ℕ) → (page : List ℕ) → List KernelText
page_texts offset page = text_if (offset + (length page - length (text_in_page page))) (kernel_of (text_in_page page))

-- ---- the pages of memory

-- The texts in the first `pages` pages of some bytes, each of which describes a kernel. The bytes are those of the file from an
-- offset on.
abbrev pub texts_in : (pages : ℕ) → (offset : ℕ) → (bytes : List ℕ) → List KernelText
texts_in pages offset bytes = flat_map (λ page. page_texts (offset + 4096 * page) (bytes_at bytes (4096 * page) 4096)) (range_with_len 0 pages)

-- The number of bytes of memory that a segment has in a file of this length.
abbrev pub memory_size : (file_length : ℕ) → Segment → ℕ
memory_size file_length segment = if is_memory segment then min segment.size (file_length - segment.offset) else 0

-- The number of bytes in a segment before its first page, whose address is a multiple of 4096.
abbrev pub page_gap : Segment → ℕ
page_gap segment = (4096 - segment.address % 4096) % 4096

-- The number of whole pages of memory that a segment has in a file of this length.
abbrev pub page_count : (file_length : ℕ) → Segment → ℕ
page_count file_length segment = (memory_size file_length segment - page_gap segment) / 4096

-- The texts in the pages of a segment, in order, each of which describes a kernel.
unfoldable pub segment_texts : (file : List ℕ) → Segment → List KernelText
segment_texts file segment =
    texts_in (page_count (length file) segment) (segment.offset + page_gap segment) (drop (segment.offset + page_gap segment) file)

-- The texts in the pages of segments, each of which describes a kernel, as long as the segments have together at most `room`
-- bytes of memory.
abbrev pub texts_within : (room : ℕ) → (file : List ℕ) → List Segment → List KernelText
texts_within room file segments = flat_map (segment_texts file) (fitting room (memory_size (length file)) segments)

-- The texts in a dump's memory, in order, each of which describes a kernel. Segments count as long as they have together no more
-- bytes than the file, so all segments count if they don't overlap.
abbrev pub kernel_texts : Contents → List KernelText
kernel_texts dump = texts_within (length dump.file) dump.file dump.segments
