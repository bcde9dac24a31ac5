use Rattle.x86_64_model.proofs.Lemmas.Machines.Laws.{clean_up_conserves}
use Rattle.x86_64_model.proofs.laws.clean_ups.clean_ups_conserve_frames.Goals as goal

pub returns : goal.returns
returns c = clean_up_conserves
