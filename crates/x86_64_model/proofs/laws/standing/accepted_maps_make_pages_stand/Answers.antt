use Rattle.x86_64_model.proofs.Lemmas.Maps.Standing.{accepted_stands}
use Rattle.x86_64_model.proofs.laws.standing.accepted_maps_make_pages_stand.Goals as goal

pub returns : goal.returns
returns c = accepted_stands
