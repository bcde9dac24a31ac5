-- Lime: the ranges of memory in a LiME file of version 1, each behind a header of 32 bytes: a magic number, a version, the first and
-- the last address of the range, and eight bytes 0, which are reserved. LiME, "lime.h", `lime_mem_range_header`. A file that is cut off ends
-- within a range or a header.
use Rattle.std.specs.Prelude.{ℕ, zero, suc, ◌+◌, ◌-◌, ◌^◌, ◌==◌, min, not, if◌then◌else◌, List, [], ◌∷◌, length, nat_lt, Result, Ok, Err}
use Rattle.x86_64_dump.specs.Numbers.{u32_at, u64_at}
use Rattle.x86_64_dump.specs.Steps.{and_then}
use Rattle.x86_64_dump.specs.declared.formats.lime.RangeHeader.{RangeHeader}
use Rattle.x86_64_dump.specs.declared.segment.Segment.{Segment}
use Rattle.x86_64_dump.specs.declared.error.Fault.{Fault}
use Rattle.x86_64_dump.specs.declared.error.Fault.TheVariants as faults

-- The fields of the header of a range at an offset of the file.
unfoldable pub range_header_at : (file : List ℕ) → (at : ℕ) → RangeHeader
range_header_at file at = record { magic = u32_at file at; version = u32_at file (at + 4); first = u64_at file (at + 8); last = u64_at file (at + 16) }

-- The memory of the range behind the header at an offset, as a segment that may end after the file, or why the header can't be
-- read. A range of 2^64 bytes counts without its last byte.
unfoldable pub range_behind : (at : ℕ) → RangeHeader → Result Segment Fault
range_behind at header =
    if not (header.magic == 0x4c69_4d45) then Err (faults.NoRangeHeader at)
    else if not (header.version == 1) then Err (faults.WrongLimeVersion at header.version)
    else if nat_lt header.last header.first then Err (faults.RangeReversed at header.first header.last)
    else Ok (record { kind = 1; offset = at + 32; address = header.first; size = min (header.last - header.first + 1) (2 ^ 64 - 1) })

-- The result for a header at an offset that ends after the file: a segment of no kind, or a fault for the first header, without
-- which nothing is known of the memory.
abbrev pub cut_header : (file_length at : ℕ) → Result Segment Fault
cut_header file_length at = if at == 0 then Err (faults.RangeHeaderCut file_length) else Ok (record { kind = 0; offset = at; address = 0; size = 32 })

-- The memory of the range whose header is at an offset, as a segment, or why the header can't be read.
unfoldable pub range_at : (file : List ℕ) → (at : ℕ) → Result Segment Fault
range_at file at = if nat_lt (length file) (at + 32) then cut_header (length file) at else range_behind at (range_header_at file at)

-- The memory of the ranges from an offset to the end of the file, or why a header can't be read. No more than `most` ranges are
-- taken.
abbrev pub ranges_from : (most : ℕ) → (file : List ℕ) → (at : ℕ) → Result (List Segment) Fault
ranges_from zero file at = Ok []
ranges_from (suc most) file at = if nat_lt at (length file)
    then and_then (range_at file at) (λ range. and_then (ranges_from most file (range.offset + range.size)) (λ ranges. Ok (range ∷ ranges)))
    else Ok []

-- The memory of all ranges of a file, or why a header can't be read. There are no more ranges than bytes, since each header has
-- 32 bytes.
unfoldable pub lime_segments : (file : List ℕ) → Result (List Segment) Fault
lime_segments file = ranges_from (length file) file 0
