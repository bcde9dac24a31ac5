-- Elf: the segments of an ELF core file, as its program headers describe them. System V ABI, "ELF Header"; a core file has the header of any
-- ELF file.
use Rattle.std.specs.Prelude.{ℕ, ◌+◌, ◌*◌, ◌==◌, ◌&&◌, Bool, not, cond, if◌then◌else◌, List, length, nat_lt, Option, None, Some, Result, Ok, Err}
use Rattle.std.specs.List.{list_any}
use Rattle.x86_64_dump.specs.Placement.{unless_fault}
use Rattle.x86_64_dump.specs.Numbers.{byte_at, u16_at, u32_at, u64_at}
use Rattle.x86_64_dump.specs.Dump.{segments_at}
use Rattle.x86_64_dump.specs.Segments.{is_memory}
use Rattle.x86_64_dump.specs.declared.header.Header.{Header}
use Rattle.x86_64_dump.specs.declared.segment.Segment.{Segment}
use Rattle.x86_64_dump.specs.declared.error.Fault.{Fault}
use Rattle.x86_64_dump.specs.declared.error.Fault.TheVariants as faults

-- The fields of a file's ELF header. Fields past the end of the file are 0.
unfoldable pub header_of : (file : List ℕ) → Header
header_of file = record {
  class = byte_at file 4;
  order = byte_at file 5;
  file_type = u16_at file 16;
  machine = u16_at file 18;
  headers = u64_at file 32;
  sections = u64_at file 40;
  entry_size = u16_at file 54;
  count = u16_at file 56;
}

-- Why an ELF file of this length with this header isn't a core file of x86-64, or None if it is one.
unfoldable pub header_fault : (file_length : ℕ) → Header → Option Fault
header_fault file_length header =
    if nat_lt file_length 64 then Some (faults.HeaderCut file_length)
    else if not (header.class == 2) then Some (faults.WrongClass header.class)
    else if not (header.order == 1) then Some (faults.WrongByteOrder header.order)
    else if not (header.file_type == 4) then Some (faults.WrongType header.file_type)
    else if not (header.machine == 62) then Some (faults.WrongMachine header.machine)
    else if not (header.entry_size == 56) then Some (faults.WrongEntrySize header.entry_size)
    else if header.count == 65535 && nat_lt file_length (header.sections + 64) then Some (faults.SectionOutside header.sections file_length)
    else None

-- The number of program headers: `e_phnum`, or `sh_info` of section 0 if `e_phnum` is 65535.
unfoldable pub count_of : (file : List ℕ) → Header → ℕ
count_of file header = cond (header.count == 65535) (u32_at file (header.sections + 44)) header.count

-- Why `count` program headers can't be read: they end after the file. None if they can.
unfoldable pub table_fault : (file_length count : ℕ) → Header → Option Fault
table_fault file_length count header =
    if nat_lt file_length (header.headers + 56 * count) then Some (faults.HeadersOutside header.headers count file_length) else None

-- Whether one of the segments is physical memory.
abbrev pub has_memory : List Segment → Bool
has_memory segments = list_any is_memory segments

-- The segments, or a fault if none of them is memory, as in core files of Xen's `dump-core`.
abbrev pub with_memory : List Segment → Result (List Segment) Fault
with_memory segments = if has_memory segments then Ok segments else Err faults.NoMemory

-- The segments of an ELF file with this header, or why it isn't a core file of x86-64 with memory.
unfoldable pub elf_segments : (file : List ℕ) → Header → Result (List Segment) Fault
elf_segments file header =
    unless_fault (header_fault (length file) header)
    (unless_fault (table_fault (length file) (count_of file header) header)
    (with_memory (segments_at file header.headers (count_of file header))))
