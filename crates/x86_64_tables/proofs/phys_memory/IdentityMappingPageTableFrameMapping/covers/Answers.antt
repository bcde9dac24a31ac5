use Rattle.std.proofs.Common.{sym}
use Rattle.std.proofs.lemmas.Bool.{eq-eqb}
use Rattle.x86_64_model.specs.Entry.{address}
use Rattle.x86_64_model.proofs.Lemmas.Entries.Words.{address-multiple}
use Rattle.x86_64_tables.proofs.phys_memory.IdentityMappingPageTableFrameMapping.covers.Goals as goal

pub returns : goal.returns
returns c =
    let start = c.start_address-start.ensures in
    sym (eq-eqb (address c.args.frame) c.args.frame (address-multiple c.args.frame start.aligned start.below))
