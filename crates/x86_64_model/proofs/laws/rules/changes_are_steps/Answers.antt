use Rattle.x86_64_model.proofs.Lemmas.Machines.Owners.{changes_are_steps}
use Rattle.x86_64_model.proofs.laws.rules.changes_are_steps.Goals as goal

pub returns : goal.returns
returns c = changes_are_steps
