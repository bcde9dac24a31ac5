use Rattle.x86_64_model.proofs.Lemmas.Machines.Laws.{step_keeps_fit}
use Rattle.x86_64_model.proofs.laws.steps.steps_keep_the_pool_fitting.Goals as goal

pub returns : goal.returns
returns c = step_keeps_fit
