use Rattle.x86_64_model.proofs.Lemmas.Machines.Owners.{maps_are_steps}
use Rattle.x86_64_model.proofs.laws.rules.maps_are_steps.Goals as goal

pub returns : goal.returns
returns c = maps_are_steps
