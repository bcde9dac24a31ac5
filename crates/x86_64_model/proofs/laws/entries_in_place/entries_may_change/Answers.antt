use Rattle.x86_64_model.proofs.Lemmas.Live.Changed.{entries_may_change, entries_stay_in_place}
use Rattle.x86_64_model.proofs.Lemmas.Live.Used.{used_entries_are_in_place}
use Rattle.x86_64_model.proofs.laws.entries_in_place.entries_may_change.Goals as goal

pub returns-clause-change : goal.returns-clause-change
returns-clause-change c = entries_may_change

pub returns-clause-stay : goal.returns-clause-stay
returns-clause-stay c = entries_stay_in_place

pub returns-clause-used : goal.returns-clause-used
returns-clause-used c = used_entries_are_in_place
