use Rattle.x86_64_model.proofs.Lemmas.Caches.TakenFrames.{only_maps_take_frames}
use Rattle.x86_64_model.proofs.laws.caches.only_maps_take_frames.Goals as goal

pub returns : goal.returns
returns c = only_maps_take_frames
