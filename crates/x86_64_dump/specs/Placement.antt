-- Placement: where the bytes of a raw file lie in physical memory.
use Rattle.std.specs.Prelude.{ℕ, ◌+◌, ◌^◌, ◌==◌, if◌then◌else◌, List, [], ◌∷◌, map, nat_lt, Option, None, Some, Result, Ok, Err}
use Rattle.std.specs.List.{filter_map, slice_get}
use Rattle.x86_64_dump.specs.declared.placement.Placement.{Placement}
use Rattle.x86_64_dump.specs.declared.placement.Placement.TheVariants.{Unstated, Base, Ranges}
use Rattle.x86_64_dump.specs.declared.placement.RawRange.{RawRange}
use Rattle.x86_64_dump.specs.declared.segment.Segment.{Segment}
use Rattle.x86_64_dump.specs.declared.error.Fault.{Fault}
use Rattle.x86_64_dump.specs.declared.error.Fault.TheVariants as faults

-- The fault if there is one, or else the result.
abbrev pub unless_fault : {A : Type 0} → Option Fault → Result A Fault → Result A Fault
unless_fault None found = found
unless_fault (Some fault) found = Err fault

-- Why a range can't be one of a file of this length: it is empty, its bytes end after the file, or its addresses end above 2^64.
-- None if it can.
unfoldable pub range_fault : (file_length : ℕ) → RawRange → Option Fault
range_fault file_length range =
    if range.size == 0 then Some (faults.RangeEmpty range.offset range.address)
    else if nat_lt file_length (range.offset + range.size) then Some (faults.RangeOutside range.offset range.size file_length)
    else if nat_lt (2 ^ 64) (range.address + range.size) then Some (faults.RangeTooHigh range.address range.size)
    else None

-- Why the first of the ranges that can't be in a file of this length can't, or None if all can.
abbrev pub first_fault : (file_length : ℕ) → List RawRange → Option Fault
first_fault file_length ranges = slice_get (filter_map (range_fault file_length) ranges) 0

-- The segment of memory that a range of a raw file is.
abbrev pub range_segment : RawRange → Segment
range_segment range = record { kind = 1; offset = range.offset; address = range.address; size = range.size }

-- The segment with all bytes of a raw file, whose first byte has this physical address, in a list of its own.
abbrev pub whole_file : (file_length address : ℕ) → List Segment
whole_file file_length address = record { kind = 1; offset = 0; address = address; size = file_length } ∷ []

-- The segments of a raw file of this length with a placement, or why one of its ranges can't be in the file.
abbrev pub raw_segments : (file_length : ℕ) → Placement → Result (List Segment) Fault
raw_segments file_length Unstated = Ok (whole_file file_length 0)
raw_segments file_length (Base base) = Ok (whole_file file_length base)
raw_segments file_length (Ranges ranges) = unless_fault (first_fault file_length ranges.items) (Ok (map range_segment ranges.items))

-- A fault if the placement is stated, for a file whose own headers say where memory lies.
abbrev pub refuse_stated : Placement → Result Unit Fault
refuse_stated Unstated = Ok tt
refuse_stated placement = Err faults.PlacementGiven

-- The placement by the physical address of the first byte, which may be missing.
abbrev pub placed_by : (base : Option ℕ) → Placement
placed_by None = Unstated
placed_by (Some base) = Base base
