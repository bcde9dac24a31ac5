use Rattle.x86_64_model.proofs.Lemmas.Caches.Runs.{stale_accesses_are_old}
use Rattle.x86_64_model.proofs.laws.caches.stale_accesses_go_where_pages_were.Goals as goal

pub returns : goal.returns
returns c = stale_accesses_are_old
