use Rattle.x86_64_model.proofs.Lemmas.Spaces.Paired.{paired_spaces_stay}
use Rattle.x86_64_model.proofs.laws.spaces.paired_spaces_stay.Goals as goal

pub returns : goal.returns
returns c = paired_spaces_stay
