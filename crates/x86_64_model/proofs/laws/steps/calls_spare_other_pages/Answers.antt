use Rattle.x86_64_model.proofs.Lemmas.Machines.Laws.{calls_spare_others}
use Rattle.x86_64_model.proofs.laws.steps.calls_spare_other_pages.Goals as goal

pub returns : goal.returns
returns c = calls_spare_others
