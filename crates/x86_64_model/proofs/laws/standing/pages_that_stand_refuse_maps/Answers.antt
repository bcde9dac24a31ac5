use Rattle.x86_64_model.proofs.Lemmas.Maps.Standing.{standing_refuses}
use Rattle.x86_64_model.proofs.laws.standing.pages_that_stand_refuse_maps.Goals as goal

pub returns : goal.returns
returns c = standing_refuses
