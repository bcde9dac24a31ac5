use Rattle.x86_64_model.proofs.Lemmas.Live.Commute.{calls_commute}
use Rattle.x86_64_model.proofs.Lemmas.Live.Spaces.{calls_on_spaces_commute}
use Rattle.x86_64_model.proofs.laws.locality.calls_commute.Goals as goal

pub returns-clause-hierarchies : goal.returns-clause-hierarchies
returns-clause-hierarchies c = calls_commute

pub returns-clause-spaces : goal.returns-clause-spaces
returns-clause-spaces c = calls_on_spaces_commute
