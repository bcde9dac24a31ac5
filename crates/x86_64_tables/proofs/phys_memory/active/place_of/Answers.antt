use Rattle.std.proofs.lemmas.Bool.{eq-eqb}
use Rattle.x86_64_model.specs.Entry.{address}
use Rattle.x86_64_model.proofs.Lemmas.Entries.Words.{address-multiple}
use Rattle.x86_64_tables.proofs.phys_memory.active.place_of.Goals as goal

pub returns-clause-frame : goal.returns-clause-frame
returns-clause-frame c =
    let start = c.start_address.ensures in
    eq-eqb (address c.args.frame) c.args.frame (address-multiple c.args.frame start.aligned start.below)
