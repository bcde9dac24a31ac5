use Rattle.x86_64_model.proofs.Lemmas.Runs.RunWalks.{run_maps_keep_walks}
use Rattle.x86_64_model.proofs.laws.steps.maps_in_runs_keep_walks.Goals as goal

pub returns : goal.returns
returns c = run_maps_keep_walks
