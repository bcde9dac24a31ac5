use Rattle.std.proofs.Common.{length}
use Rattle.test_reference.proofs.cleaning.+number.Given as goal

abbrev pub decreases-number : goal.decreases-number
decreases-number l = length l.path.now
