use Rattle.std.proofs.Common.{length}
use Rattle.x86_64_dump.proofs.search.+stretches_of.Given as goal

abbrev pub decreases-stretches_of : goal.decreases-stretches_of
decreases-stretches_of l = length l.segments.now
