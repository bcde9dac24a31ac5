use Rattle.x86_64_model.proofs.Lemmas.Tables.Meant.{sound_is_valid}
use Rattle.x86_64_model.proofs.laws.validity.sound_tables_are_valid.Goals as goal

pub returns : goal.returns
returns c = sound_is_valid
