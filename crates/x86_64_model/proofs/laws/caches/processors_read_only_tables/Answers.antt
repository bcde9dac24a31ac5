use Rattle.x86_64_model.proofs.Lemmas.Caches.Runs.{only_tables_are_read}
use Rattle.x86_64_model.proofs.laws.caches.processors_read_only_tables.Goals as goal

pub returns : goal.returns
returns c = only_tables_are_read
