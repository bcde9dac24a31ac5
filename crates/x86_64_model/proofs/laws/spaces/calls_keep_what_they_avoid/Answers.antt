use Rattle.x86_64_model.proofs.Lemmas.Spaces.Calls.{calls_keep_below}
use Rattle.x86_64_model.proofs.laws.spaces.calls_keep_what_they_avoid.Goals as goal

pub returns : goal.returns
returns c = calls_keep_below
