use Rattle.x86_64_model.proofs.Lemmas.Switches.Layouts.{new_spaces_may_begin}
use Rattle.x86_64_model.proofs.laws.switches.new_address_spaces_may_begin.Goals as goal

pub returns : goal.returns
returns c = new_spaces_may_begin
