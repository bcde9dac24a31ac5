use Rattle.x86_64_model.proofs.Lemmas.Spaces.Many.{spaces_stay}
use Rattle.x86_64_model.proofs.laws.spaces.spaces_stay.Goals as goal

pub returns : goal.returns
returns c = spaces_stay
