use Rattle.x86_64_access.proofs.MarkingProcessors.{flushes_are_enough_with_marks}
use Rattle.x86_64_access.proofs.laws.flushes_are_enough_with_marks.Goals as goal

pub returns : goal.returns
returns c = flushes_are_enough_with_marks
