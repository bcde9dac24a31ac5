use Rattle.std.proofs.Common.{◌∙◌}
use Rattle.x86_64_tables.proofs.NumberedTables.{get-numbered}
use Rattle.x86_64_tables.proofs.Places.{copied_is_element}
use Rattle.x86_64_tables.proofs.phys_memory.lent_memory.LentMemoryTableMemory.table.Goals as goal

pub returns : goal.returns
returns c =
    let tables = c.args.self.now.slice.now in
    let lookup = rw c.number.ensures at c.get.ensures.lookup in
    copied_is_element c.get.result tables c.args.place lookup.0 lookup.1 ∙ get-numbered tables c.args.place
