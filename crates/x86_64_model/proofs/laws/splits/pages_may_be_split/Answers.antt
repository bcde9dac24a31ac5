use Rattle.x86_64_model.proofs.Lemmas.Live.Splits.{pages_may_be_split}
use Rattle.x86_64_model.proofs.laws.splits.pages_may_be_split.Goals as goal

pub returns : goal.returns
returns c = pages_may_be_split
