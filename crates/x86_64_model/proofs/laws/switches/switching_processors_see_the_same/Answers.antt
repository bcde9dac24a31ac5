use Rattle.x86_64_model.proofs.Lemmas.Switches.Processors.{all_see_the_same}
use Rattle.x86_64_model.proofs.laws.switches.switching_processors_see_the_same.Goals as goal

pub returns : goal.returns
returns c = all_see_the_same
