use Rattle.x86_64_model.proofs.Lemmas.Switches.NewOnes.{given_up_may_switch}
use Rattle.x86_64_model.proofs.laws.switches.given_up_roots_may_happen.Goals as goal

pub returns : goal.returns
returns c = given_up_may_switch
