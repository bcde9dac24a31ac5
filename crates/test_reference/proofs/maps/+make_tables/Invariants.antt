use Rattle.std.proofs.Common.{length}
use Rattle.test_reference.proofs.maps.+make_tables.Given as goal

abbrev pub decreases-make_tables : goal.decreases-make_tables
decreases-make_tables l = length l.lengths.now
