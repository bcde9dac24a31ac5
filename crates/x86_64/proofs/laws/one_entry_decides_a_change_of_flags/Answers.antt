use Rattle.x86_64.proofs.OneEntry.{one_entry_decides}
use Rattle.x86_64.proofs.laws.one_entry_decides_a_change_of_flags.Goals as goal

pub returns : goal.returns
returns c = one_entry_decides
