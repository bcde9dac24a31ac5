use Rattle.x86_64_model.proofs.Lemmas.Machines.Laws.{refused_maps}
use Rattle.x86_64_model.proofs.laws.maps.refused_maps_leave_little.Goals as goal

pub returns : goal.returns
returns c = refused_maps
