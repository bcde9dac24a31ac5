use Rattle.x86_64_model.proofs.Lemmas.Switches.Processors.{each_is_flushed_here}
use Rattle.x86_64_model.proofs.laws.switches.switching_processors_are_flushed_each.Goals as goal

pub returns : goal.returns
returns c = each_is_flushed_here
