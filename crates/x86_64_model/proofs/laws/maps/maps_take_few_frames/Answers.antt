use Rattle.x86_64_model.proofs.Lemmas.Machines.Laws.{map_takes_few}
use Rattle.x86_64_model.proofs.laws.maps.maps_take_few_frames.Goals as goal

pub returns : goal.returns
returns c = map_takes_few
