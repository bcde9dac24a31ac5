use Rattle.x86_64.proofs.Telling.{replies_tell}
use Rattle.x86_64.proofs.laws.replies_lose_nothing.Goals as goal

pub returns : goal.returns
returns c = replies_tell
