use Rattle.x86_64_model.proofs.Lemmas.Spaces.Walks.{shared_walks_are_the_same, walks_stay}
use Rattle.x86_64_model.proofs.laws.spaces.shared_walks_stay.Goals as goal

pub returns-clause-same : goal.returns-clause-same
returns-clause-same c = shared_walks_are_the_same

pub returns-clause-elsewhere : goal.returns-clause-elsewhere
returns-clause-elsewhere c = walks_stay
