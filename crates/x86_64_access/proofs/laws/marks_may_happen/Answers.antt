use Rattle.x86_64_access.proofs.MarkingProcessors.{marks_may_happen}
use Rattle.x86_64_access.proofs.laws.marks_may_happen.Goals as goal

pub returns : goal.returns
returns c = marks_may_happen
