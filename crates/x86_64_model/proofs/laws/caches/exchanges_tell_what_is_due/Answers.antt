use Rattle.x86_64_model.proofs.Lemmas.Caches.MayExchange.{exchanges_tell}
use Rattle.x86_64_model.proofs.laws.caches.exchanges_tell_what_is_due.Goals as goal

pub returns : goal.returns
returns c = exchanges_tell
