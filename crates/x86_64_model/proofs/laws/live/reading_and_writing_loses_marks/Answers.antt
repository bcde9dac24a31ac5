use Rattle.x86_64_model.proofs.Lemmas.Live.Marks.{mark_is_lost, entry_is_put_back}
use Rattle.x86_64_model.proofs.laws.live.reading_and_writing_loses_marks.Goals as goal

pub returns-clause-lost : goal.returns-clause-lost
returns-clause-lost c = mark_is_lost

pub returns-clause-put_back : goal.returns-clause-put_back
returns-clause-put_back c = entry_is_put_back
