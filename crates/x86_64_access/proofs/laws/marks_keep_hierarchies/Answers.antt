use Rattle.x86_64_access.proofs.MarkedHierarchies.{fits_stay}
use Rattle.x86_64_access.proofs.laws.marks_keep_hierarchies.Goals as goal

pub returns : goal.returns
returns c = fits_stay
