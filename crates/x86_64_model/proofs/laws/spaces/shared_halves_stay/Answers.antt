use Rattle.x86_64_model.proofs.Lemmas.Spaces.Tables.{shared_halves_stay}
use Rattle.x86_64_model.proofs.laws.spaces.shared_halves_stay.Goals as goal

pub returns : goal.returns
returns c = shared_halves_stay
