use Rattle.x86_64_model.proofs.Lemmas.Hierarchies.Elsewhere.{valid_elsewhere}
use Rattle.x86_64_model.proofs.laws.hierarchies.other_words_may_change.Goals as goal

pub returns : goal.returns
returns c = valid_elsewhere
