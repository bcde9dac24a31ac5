use Rattle.x86_64_live.proofs.PreparedThenMapped.{flagged_entries_stay}
use Rattle.x86_64_live.proofs.laws.flagged_entries_stay.Goals as goal

pub returns : goal.returns
returns c = flagged_entries_stay
