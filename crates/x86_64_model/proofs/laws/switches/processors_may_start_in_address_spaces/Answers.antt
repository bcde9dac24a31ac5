use Rattle.x86_64_model.proofs.Lemmas.Switches.Layouts.{spaces_may_start}
use Rattle.x86_64_model.proofs.laws.switches.processors_may_start_in_address_spaces.Goals as goal

pub returns : goal.returns
returns c = spaces_may_start
