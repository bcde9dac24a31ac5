-- MemoryRanges: the addresses of segments of memory.
use Rattle.std.specs.Prelude.{ℕ, ◌+◌, ◌-◌, ◌^◌, min}
use Rattle.x86_64_dump.specs.declared.segment.Segment.{Segment}

-- The last address of a segment that has an address, but at most 2^64 - 1, above which there is none.
abbrev pub last_address : Segment → ℕ
last_address segment = min (segment.address + (segment.size - 1)) (2 ^ 64 - 1)
