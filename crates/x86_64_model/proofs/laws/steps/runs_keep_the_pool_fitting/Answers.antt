use Rattle.x86_64_model.proofs.Lemmas.Machines.Laws.{run_keeps_fit}
use Rattle.x86_64_model.proofs.laws.steps.runs_keep_the_pool_fitting.Goals as goal

pub returns : goal.returns
returns c = run_keeps_fit
