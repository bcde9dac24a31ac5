use Rattle.x86_64_live.proofs.PreparedThenMapped.{prepared_maps_are_maps}
use Rattle.x86_64_live.proofs.laws.prepared_maps_are_maps.Goals as goal

pub returns : goal.returns
returns c = prepared_maps_are_maps
