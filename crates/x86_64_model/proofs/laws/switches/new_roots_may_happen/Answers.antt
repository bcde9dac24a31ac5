use Rattle.x86_64_model.proofs.Lemmas.Switches.NewOnes.{new_spaces_may_switch}
use Rattle.x86_64_model.proofs.laws.switches.new_roots_may_happen.Goals as goal

pub returns : goal.returns
returns c = new_spaces_may_switch
