use Rattle.x86_64_model.proofs.Lemmas.Switches.Runs.{stale_switches_are_old}
use Rattle.x86_64_model.proofs.laws.switches.stale_accesses_go_where_pages_were_with_switches.Goals as goal

pub returns : goal.returns
returns c = stale_switches_are_old
