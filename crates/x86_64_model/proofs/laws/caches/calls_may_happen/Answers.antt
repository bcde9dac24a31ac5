use Rattle.x86_64_model.proofs.Lemmas.Caches.Whole.{calls_may_happen}
use Rattle.x86_64_model.proofs.laws.caches.calls_may_happen.Goals as goal

pub returns : goal.returns
returns c = calls_may_happen
