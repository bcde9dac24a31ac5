use Rattle.x86_64_model.proofs.Lemmas.Machines.Laws.{map_walked_down}
use Rattle.x86_64_model.proofs.laws.maps.walk_down_is_the_rule.Goals as goal

pub returns : goal.returns
returns c = map_walked_down
