-- The address bits of a word are a multiple of 4096.
use Rattle.x86_64_model.proofs.Lemmas.Entries.Words.{address_aligned}
use Rattle.x86_64_model.specs.Entry.{address}
use Rattle.ptdump_check.proofs.findings.entry.Entry.frame.Goals as goal

pub from_start_address_unchecked-requires : goal.from_start_address_unchecked-requires
unfolding address
from_start_address_unchecked-requires c = rw c.new.ensures (address_aligned c.args.self.now.word)
