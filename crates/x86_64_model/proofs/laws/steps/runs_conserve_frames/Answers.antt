use Rattle.x86_64_model.proofs.Lemmas.Machines.Laws.{run_keeps_frames}
use Rattle.x86_64_model.proofs.laws.steps.runs_conserve_frames.Goals as goal

pub returns : goal.returns
returns c = run_keeps_frames
