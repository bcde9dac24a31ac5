use Rattle.std.proofs.Common.{◌≡◌, true, take}
use Rattle.x86_64_tables.specs.FrameSegments.{are_in_order}
use Rattle.x86_64_tables.proofs.phys_memory.segment_mapping.first_wrong.Given as goal

abbrev pub invariant-loop-index : goal.invariant-loop-index
invariant-loop-index l = are_in_order (take l.index l.segments) ≡ true
