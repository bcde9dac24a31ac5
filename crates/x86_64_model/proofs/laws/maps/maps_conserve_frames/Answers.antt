use Rattle.x86_64_model.proofs.Lemmas.Maps.Calls.{map_call_conserves}
use Rattle.x86_64_model.proofs.laws.maps.maps_conserve_frames.Goals as goal

pub returns : goal.returns
returns c = map_call_conserves
