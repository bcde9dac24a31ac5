use Rattle.x86_64_model.proofs.Lemmas.Switches.Runs.{switches_are_flushed}
use Rattle.x86_64_model.proofs.laws.switches.flushes_are_enough_with_switches.Goals as goal

pub returns : goal.returns
returns c = switches_are_flushed
