use Rattle.x86_64_model.proofs.Lemmas.Hierarchies.Held.{valid_after}
use Rattle.x86_64_model.proofs.laws.hierarchies.one_word_changes_one_path.Goals as goal

pub returns : goal.returns
returns c = λ L T root M p i w f words valid leads is within small may. valid_after L T root M p i w f words valid leads is within small may
