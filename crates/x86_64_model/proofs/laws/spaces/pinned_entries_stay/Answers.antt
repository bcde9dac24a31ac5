use Rattle.x86_64_model.proofs.Lemmas.Spaces.Calls.{pinned_entries_stay}
use Rattle.x86_64_model.proofs.laws.spaces.pinned_entries_stay.Goals as goal

pub returns : goal.returns
returns c = pinned_entries_stay
