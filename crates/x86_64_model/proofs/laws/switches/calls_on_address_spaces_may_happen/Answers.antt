use Rattle.x86_64_model.proofs.Lemmas.Switches.Calls.{calls_may_switch}
use Rattle.x86_64_model.proofs.laws.switches.calls_on_address_spaces_may_happen.Goals as goal

pub returns : goal.returns
returns c = calls_may_switch
