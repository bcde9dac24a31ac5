use Rattle.std.proofs.Common.{length}
use Rattle.test_reference.proofs.machine.+give_back.Given as goal

abbrev pub decreases-give_back : goal.decreases-give_back
decreases-give_back l = length l.frames.now
