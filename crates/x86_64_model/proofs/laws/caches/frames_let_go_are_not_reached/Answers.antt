use Rattle.x86_64_model.proofs.Lemmas.Caches.Runs.{let_go_is_unreached}
use Rattle.x86_64_model.proofs.laws.caches.frames_let_go_are_not_reached.Goals as goal

pub returns : goal.returns
returns c = let_go_is_unreached
