use Rattle.x86_64_access.proofs.SwitchingMarks.{marks_may_switch}
use Rattle.x86_64_access.proofs.laws.marks_of_address_spaces_may_happen.Goals as goal

pub returns : goal.returns
returns c = marks_may_switch
