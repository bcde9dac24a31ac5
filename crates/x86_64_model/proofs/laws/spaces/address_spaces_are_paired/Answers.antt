use Rattle.x86_64_model.proofs.Lemmas.Spaces.Paired.{spaces_are_paired}
use Rattle.x86_64_model.proofs.laws.spaces.address_spaces_are_paired.Goals as goal

pub returns : goal.returns
returns c = spaces_are_paired
