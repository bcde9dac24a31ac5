use Rattle.x86_64_model.proofs.Lemmas.Live.Calls.{calls_are_local}
use Rattle.x86_64_model.proofs.laws.locality.calls_are_local.Goals as goal

pub returns : goal.returns
returns c = calls_are_local
