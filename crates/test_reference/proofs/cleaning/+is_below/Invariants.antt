use Rattle.std.proofs.Common.{length}
use Rattle.test_reference.proofs.cleaning.+is_below.Given as goal

abbrev pub decreases-is_below : goal.decreases-is_below
decreases-is_below l = length l.path.now
