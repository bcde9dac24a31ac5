use Rattle.x86_64_model.proofs.Lemmas.Switches.Runs.{current_is_a_space}
use Rattle.x86_64_model.proofs.laws.switches.current_roots_are_spaces.Goals as goal

pub returns : goal.returns
returns c = current_is_a_space
