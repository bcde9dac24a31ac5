use Rattle.x86_64.proofs.CallEvents.{run_calls_are_events}
use Rattle.x86_64.proofs.laws.run_calls_are_events.Goals as goal

pub returns : goal.returns
returns c = run_calls_are_events
