use Rattle.x86_64_model.proofs.Lemmas.Tables.Meant.{valid_for_its_paths}
use Rattle.x86_64_model.proofs.laws.validity.words_are_valid_for_their_map.Goals as goal

pub returns : goal.returns
returns c = valid_for_its_paths
