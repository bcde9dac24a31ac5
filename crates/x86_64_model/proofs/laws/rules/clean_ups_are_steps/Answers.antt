use Rattle.x86_64_model.proofs.Lemmas.Machines.Owners.{clean_ups_are_steps}
use Rattle.x86_64_model.proofs.laws.rules.clean_ups_are_steps.Goals as goal

pub returns : goal.returns
returns c = clean_ups_are_steps
