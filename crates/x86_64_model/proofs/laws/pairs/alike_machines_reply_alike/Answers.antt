use Rattle.x86_64_model.proofs.Lemmas.Machines.Laws.{pairs_reply_alike}
use Rattle.x86_64_model.proofs.laws.pairs.alike_machines_reply_alike.Goals as goal

pub returns : goal.returns
returns c = pairs_reply_alike
