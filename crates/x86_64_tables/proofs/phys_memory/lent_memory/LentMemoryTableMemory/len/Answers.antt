use Rattle.std.proofs.Common.{sym}
use Rattle.x86_64_tables.proofs.NumberedTables.{len-numbered}
use Rattle.x86_64_tables.proofs.phys_memory.lent_memory.LentMemoryTableMemory.len.Goals as goal

pub returns : goal.returns
returns c = sym (len-numbered c.args.self.now.slice.now)
