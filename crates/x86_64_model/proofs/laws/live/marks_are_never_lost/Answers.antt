use Rattle.x86_64_model.proofs.Lemmas.Live.Marks.{no_mark_is_lost, who_takes_flags_sees_them}
use Rattle.x86_64_model.proofs.laws.live.marks_are_never_lost.Goals as goal

pub returns-clause-entries : goal.returns-clause-entries
returns-clause-entries c = no_mark_is_lost

pub returns-clause-words : goal.returns-clause-words
returns-clause-words c = who_takes_flags_sees_them
