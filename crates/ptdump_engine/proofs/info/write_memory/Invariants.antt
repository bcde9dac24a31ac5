use Rattle.std.proofs.Common.{take}
use Rattle.std.specs.List.{flat_map}
use Rattle.ptdump_engine.specs.Info.{memory_line}
use Rattle.ptdump_engine.specs.Output.{Puts}
use Rattle.ptdump_engine.proofs.info.write_memory.Given as goal

-- the segments so far are written
abbrev pub invariant-loop-segment : goal.invariant-loop-segment
invariant-loop-segment g l =
    Puts g.W.Destination.contents l.fn.output l.output (flat_map (memory_line l.form) (take l.segment-index l.segments))
