use Rattle.x86_64_model.proofs.Lemmas.Live.Owned.{hierarchies_are_local}
use Rattle.x86_64_model.proofs.laws.locality.hierarchies_are_local.Goals as goal

pub returns : goal.returns
returns c = hierarchies_are_local
