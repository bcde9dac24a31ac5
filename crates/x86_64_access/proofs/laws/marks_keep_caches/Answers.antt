use Rattle.x86_64_access.proofs.MarkedCaches.{caches_stay}
use Rattle.x86_64_access.proofs.laws.marks_keep_caches.Goals as goal

pub returns : goal.returns
returns c = caches_stay
