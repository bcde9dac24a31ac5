use Rattle.x86_64_live.proofs.PreparedThenMapped.{small_preparations_are_steps}
use Rattle.x86_64_live.proofs.laws.small_preparations_are_steps.Goals as goal

pub returns : goal.returns
returns c = small_preparations_are_steps
