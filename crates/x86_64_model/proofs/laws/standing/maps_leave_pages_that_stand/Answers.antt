use Rattle.x86_64_model.proofs.Lemmas.Maps.Standing.{standing_is_left}
use Rattle.x86_64_model.proofs.laws.standing.maps_leave_pages_that_stand.Goals as goal

pub returns : goal.returns
returns c = standing_is_left
