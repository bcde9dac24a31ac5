use Rattle.x86_64_model.proofs.Lemmas.Runs.RunWalks.{run_maps_arrive}
use Rattle.x86_64_model.proofs.laws.steps.maps_in_runs_arrive.Goals as goal

pub returns : goal.returns
returns c = run_maps_arrive
