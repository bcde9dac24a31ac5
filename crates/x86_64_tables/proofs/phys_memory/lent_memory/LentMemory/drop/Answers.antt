use Rattle.std.proofs.Common.{refl, sym}
use Rattle.x86_64_tables.proofs.NumberedTables.{in_order-numbered}
use Rattle.x86_64_tables.proofs.phys_memory.lent_memory.LentMemory.drop.Goals as goal

pub returns : goal.returns
returns c = record {
  tables = refl;
  in_order = sym (in_order-numbered c.args.self.slice.now);
}
