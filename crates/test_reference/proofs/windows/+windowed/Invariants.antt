use Rattle.std.proofs.Common.{length}
use Rattle.test_reference.proofs.windows.+windowed.Given as goal

abbrev pub decreases-windowed : goal.decreases-windowed
decreases-windowed l = length l.path.now
