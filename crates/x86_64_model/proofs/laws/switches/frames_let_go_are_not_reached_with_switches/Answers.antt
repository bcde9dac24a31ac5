use Rattle.x86_64_model.proofs.Lemmas.Switches.Runs.{let_go_is_unreached_here}
use Rattle.x86_64_model.proofs.laws.switches.frames_let_go_are_not_reached_with_switches.Goals as goal

pub returns : goal.returns
returns c = let_go_is_unreached_here
