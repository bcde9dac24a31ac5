-- The flags of the word and the address of the frame have no bit in common.
use Rattle.x86_64_model.specs.Entry.{flags}
use Rattle.x86_64_model.proofs.Lemmas.Entries.Words.{address-multiple}
use Rattle.ptdump_check.proofs.Renamed.{address-renamed, flags-renamed}
use Rattle.ptdump_check.proofs.findings.entry.Entry.renamed.Goals as goal

pub returns-clause-flags : goal.returns-clause-flags
unfolding flags
returns-clause-flags c =
    let start = c.start_address.ensures in
    rw (c.as_u64.ensures.value, start.value)
    (flags-renamed c.args.self.now.word c.args.frame (address-multiple c.args.frame start.aligned_to_4kib start.below))

pub returns-clause-frame : goal.returns-clause-frame
unfolding flags
returns-clause-frame c =
    let start = c.start_address.ensures in
    rw (c.as_u64.ensures.value, start.value)
    (address-renamed c.args.self.now.word c.args.frame (address-multiple c.args.frame start.aligned_to_4kib start.below))
