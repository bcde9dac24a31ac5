use Rattle.x86_64_model.proofs.Lemmas.Caches.MayExchange.{exchanges_may_happen}
use Rattle.x86_64_model.proofs.laws.caches.exchanges_may_happen.Goals as goal

pub returns : goal.returns
returns c = exchanges_may_happen
