use Rattle.x86_64_model.proofs.Lemmas.Machines.Laws.{flushes_are_enough}
use Rattle.x86_64_model.proofs.laws.steps.recorded_flushes_suffice.Goals as goal

pub returns : goal.returns
returns c = flushes_are_enough
