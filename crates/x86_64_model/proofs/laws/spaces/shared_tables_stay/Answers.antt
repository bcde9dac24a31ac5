use Rattle.x86_64_model.proofs.Lemmas.Spaces.Tables.{shared_tables_stay}
use Rattle.x86_64_model.proofs.laws.spaces.shared_tables_stay.Goals as goal

pub returns : goal.returns
returns c = shared_tables_stay
