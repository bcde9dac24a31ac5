use Rattle.std.proofs.Common.{◌∙◌, slice_get, ap, sym, arith}
use Rattle.x86_64_tables.proofs.NumberedTables.{get-numbered, there_below}
use Rattle.x86_64_tables.proofs.phys_memory.lent_memory.LentMemoryTableMemory.table_at.Goals as goal

pub item_at-requires : goal.item_at-requires
item_at-requires c =
    let tables = c.args.self.now.slice.now in let below = there_below tables c.args.place c.requires in
    omega (arith, c.number.ensures, below)

pub returns : goal.returns
returns c =
    let tables = c.args.self.now.slice.now in
    sym (get-numbered tables c.args.place) ∙ ap (slice_get tables) (sym c.number.ensures) ∙ c.item_at.ensures
