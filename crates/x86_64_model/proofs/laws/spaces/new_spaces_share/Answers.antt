use Rattle.x86_64_model.proofs.Lemmas.Spaces.NewOnes.{new_spaces}
use Rattle.x86_64_model.proofs.laws.spaces.new_spaces_share.Goals as goal

pub returns : goal.returns
returns c = new_spaces
