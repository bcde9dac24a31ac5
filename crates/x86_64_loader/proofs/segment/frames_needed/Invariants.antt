use Rattle.std.proofs.Common.{◌≡◌, take}
use Rattle.x86_64_loader.specs.Segments.{frames_for}
use Rattle.x86_64_loader.proofs.segment.frames_needed.Given as goal

abbrev pub invariant-loop-segment : goal.invariant-loop-segment
invariant-loop-segment l = l.count ≡ frames_for (take l.segment-index l.segments)
