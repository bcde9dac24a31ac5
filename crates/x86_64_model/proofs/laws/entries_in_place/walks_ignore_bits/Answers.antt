use Rattle.x86_64_model.proofs.Lemmas.Live.UsedAlike.{walks_ignore_bits}
use Rattle.x86_64_model.proofs.laws.entries_in_place.walks_ignore_bits.Goals as goal

pub returns : goal.returns
returns c = walks_ignore_bits
