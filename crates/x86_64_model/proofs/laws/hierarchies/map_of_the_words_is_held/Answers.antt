use Rattle.x86_64_model.proofs.Lemmas.Hierarchies.Exists.{holds_paths_of}
use Rattle.x86_64_model.proofs.laws.hierarchies.map_of_the_words_is_held.Goals as goal

pub returns : goal.returns
returns c = λ L levels T root. holds_paths_of L T root levels
