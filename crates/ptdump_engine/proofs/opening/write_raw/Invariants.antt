use Rattle.std.proofs.Common.{take}
use Rattle.std.specs.List.{flat_map}
use Rattle.ptdump_engine.specs.Output.{Puts}
use Rattle.ptdump_engine.specs.Program.{raw_text}
use Rattle.ptdump_json.specs.Walks.{line}
use Rattle.ptdump_engine.proofs.opening.write_raw.Given as goal

-- the segments so far are written
abbrev pub invariant-loop-segment : goal.invariant-loop-segment
invariant-loop-segment g l =
    Puts g.E.Destination.contents l.fn.notes l.notes (flat_map (λ segment. line (raw_text segment)) (take l.segment-index l.segments))
