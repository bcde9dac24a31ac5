use Rattle.x86_64_model.proofs.Lemmas.Switches.Globals.{calls_keep_globals}
use Rattle.x86_64_model.proofs.laws.switches.calls_keep_globals_below_shared_indices.Goals as goal

pub returns : goal.returns
returns c = calls_keep_globals
