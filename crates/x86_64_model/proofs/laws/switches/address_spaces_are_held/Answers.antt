use Rattle.x86_64_model.proofs.Lemmas.Switches.Layouts.{spaces_are_held}
use Rattle.x86_64_model.proofs.laws.switches.address_spaces_are_held.Goals as goal

pub returns : goal.returns
returns c = spaces_are_held
