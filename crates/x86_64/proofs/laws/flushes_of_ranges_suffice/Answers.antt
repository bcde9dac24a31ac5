use Rattle.x86_64.proofs.RangeFlushes.{range_flushes_suffice}
use Rattle.x86_64.proofs.laws.flushes_of_ranges_suffice.Goals as goal

pub returns : goal.returns
returns c = range_flushes_suffice
