use Rattle.x86_64_model.proofs.Lemmas.Caches.TakenFrames.{first_frames_are_taken}
use Rattle.x86_64_model.proofs.laws.caches.only_first_frames_are_taken.Goals as goal

pub returns : goal.returns
returns c = first_frames_are_taken
