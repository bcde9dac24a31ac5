use Rattle.x86_64_model.proofs.Lemmas.Live.Join.{pages_may_be_joined}
use Rattle.x86_64_model.proofs.laws.splits.pages_may_be_joined.Goals as goal

pub returns : goal.returns
returns c = pages_may_be_joined
