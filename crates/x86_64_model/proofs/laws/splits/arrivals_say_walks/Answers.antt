use Rattle.x86_64_model.proofs.Lemmas.Live.PartWords.{arrivals_say_walks}
use Rattle.x86_64_model.proofs.laws.splits.arrivals_say_walks.Goals as goal

pub returns : goal.returns
returns c = arrivals_say_walks
