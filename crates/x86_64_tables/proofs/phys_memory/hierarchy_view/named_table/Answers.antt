use Rattle.x86_64_model.proofs.Lemmas.Entries.Words.{address_aligned}
use Rattle.x86_64_tables.proofs.phys_memory.hierarchy_view.named_table.Goals as goal

pub from_start_address_unchecked-requires : goal.from_start_address_unchecked-requires
from_start_address_unchecked-requires c = rw c.addr.ensures (address_aligned c.args.entry.now)
