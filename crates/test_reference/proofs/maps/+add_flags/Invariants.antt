use Rattle.std.proofs.Common.{length}
use Rattle.test_reference.proofs.maps.+add_flags.Given as goal

abbrev pub decreases-add_flags : goal.decreases-add_flags
decreases-add_flags l = length l.lengths.now
