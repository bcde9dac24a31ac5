use Rattle.x86_64_model.proofs.Lemmas.Spaces.Tables.{shared_entries_are_the_same}
use Rattle.x86_64_model.proofs.laws.spaces.shared_entries_are_the_same.Goals as goal

pub returns : goal.returns
returns c = shared_entries_are_the_same
