use Rattle.std.proofs.Common.{rules}
use Rattle.x86_64_loader.specs.Segments.{IsAllowed}
use Rattle.x86_64_loader.proofs.Segments.{next_too}
use Rattle.x86_64_loader.proofs.segment.segments_allowed.Goals as goal

pub loop-segment-preserved : goal.loop-segment-preserved
loop-segment-preserved g c =
    next_too c.args.segments.now c.loop-segment.segment-index c.segment-item.result c.loop-segment-test.true c.segment-item.is
    (IsAllowed (g.M.Tables.hierarchy c.args.mapper.now)) c.loop-segment.invariant (search rules)
