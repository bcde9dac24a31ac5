use Rattle.x86_64_model.proofs.Lemmas.Hierarchies.Empty.{empty_valid}
use Rattle.x86_64_model.proofs.laws.hierarchies.empty_roots_are_valid.Goals as goal

pub returns : goal.returns
returns c = empty_valid
