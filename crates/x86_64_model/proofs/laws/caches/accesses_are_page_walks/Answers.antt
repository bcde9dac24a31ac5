use Rattle.x86_64_model.proofs.Lemmas.Caches.Runs.{accesses_are_walks}
use Rattle.x86_64_model.proofs.laws.caches.accesses_are_page_walks.Goals as goal

pub returns : goal.returns
returns c = accesses_are_walks
