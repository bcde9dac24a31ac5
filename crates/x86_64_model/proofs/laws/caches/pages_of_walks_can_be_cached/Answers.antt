use Rattle.x86_64_model.proofs.Lemmas.Caches.Filled.{walks_are_cached}
use Rattle.x86_64_model.proofs.laws.caches.pages_of_walks_can_be_cached.Goals as goal

pub returns : goal.returns
returns c = walks_are_cached
