-- Segments: the parts of a file that are memory. Linux's /proc/kcore has segments of kernel addresses whose bytes have no physical
-- address of their own: their `p_paddr` is -1. Linux, "fs/proc/kcore.c", `read_kcore_iter`.
use Rattle.std.specs.Prelude.{◌-◌, ◌^◌, ◌==◌, ◌&&◌, Bool, not}
use Rattle.x86_64_dump.specs.declared.segment.Segment.{Segment}

-- Whether the bytes of a segment have a physical address of their own.
abbrev pub has_address : Segment → Bool
has_address segment = not (segment.address == 2 ^ 64 - 1)

-- Whether a segment is physical memory: its kind is `PT_LOAD`, and its bytes have an address.
abbrev pub is_memory : Segment → Bool
is_memory segment = segment.kind == 1 && has_address segment
