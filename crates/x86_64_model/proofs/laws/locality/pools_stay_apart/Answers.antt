use Rattle.x86_64_model.proofs.Lemmas.Live.Pools.{pools_stay_apart}
use Rattle.x86_64_model.proofs.laws.locality.pools_stay_apart.Goals as goal

pub returns : goal.returns
returns c = pools_stay_apart
