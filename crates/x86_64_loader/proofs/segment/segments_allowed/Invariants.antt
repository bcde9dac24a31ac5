use Rattle.std.proofs.Common.{ℕ, ◌<◌, get_or}
use Rattle.x86_64_loader.specs.Segments.{IsAllowed}
use Rattle.x86_64_loader.specs.declared.segment.Segment.{Segment}
use Rattle.x86_64_loader.proofs.segment.segments_allowed.Given as goal

abbrev pub invariant-loop-segment : goal.invariant-loop-segment
invariant-loop-segment g l = (j : ℕ) (d : Segment) → j < l.segment-index → IsAllowed (g.M.Tables.hierarchy l.mapper) (get_or l.segments j d)
