use Rattle.x86_64_model.proofs.Lemmas.Tables.Meant.{sound_is_fitting}
use Rattle.x86_64_model.proofs.laws.validity.sound_tables_and_pools_fit.Goals as goal

pub returns : goal.returns
returns c = sound_is_fitting
