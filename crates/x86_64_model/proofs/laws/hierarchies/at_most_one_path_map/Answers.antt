use Rattle.x86_64_model.proofs.Lemmas.Hierarchies.Held.{one_held}
use Rattle.x86_64_model.proofs.laws.hierarchies.at_most_one_path_map.Goals as goal

pub returns : goal.returns
returns c = λ L root T M N. one_held L T root M N
