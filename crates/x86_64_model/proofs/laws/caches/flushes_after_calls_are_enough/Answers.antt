use Rattle.x86_64_model.proofs.Lemmas.Caches.Runs.{flushes_are_enough}
use Rattle.x86_64_model.proofs.laws.caches.flushes_after_calls_are_enough.Goals as goal

pub returns : goal.returns
returns c = flushes_are_enough
