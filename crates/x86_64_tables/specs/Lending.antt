-- What a table or a memory is when the loan of one of its words or tables ends.
use Rattle.std.specs.Prelude.{ℕ, List, Option, slice_set}
use Rattle.std.specs.Borrow.{Lends, LendsIf, MutBor, Fml, RattleType}
use Rattle.std.specs.FinMap.{insert}
use Rattle.x86_64_model.specs.Memory.{Memory}
use Rattle.x86_64_tables.specs.contracts.page_table.entry.PageTableEntry.{the_row as entry_row}
use Rattle.x86_64_tables.specs.contracts.page_table.table.PageTable.{the_row as table_row}
use Rattle.x86_64_tables.specs.contracts.phys_memory.PhysMemory.{the_row as memory_row}

-- When the loan ends, the table has the last word behind the reference r at the index, and its other words are unchanged.
abbrev pub LendsWord : MutBor (List ℕ) → (index : ℕ) → MutBor ℕ → Fml
LendsWord table index r = Lends table_row entry_row table r (slice_set table.now index)

-- When the loan ends, the memory has the last table behind the reference r at the place, and its other tables are unchanged. If r
-- is None, nothing is lent, and the memory is unchanged.
abbrev pub LendsTable : MutBor Memory → (place : ℕ) → Option (MutBor (List ℕ)) → Fml
LendsTable memory place r = LendsIf memory_row table_row memory r (insert memory.now place) memory.now

-- When the loan ends, the memory has the last table behind the reference r at the place, and its other tables are unchanged.
abbrev pub LendsTableAt : MutBor Memory → (place : ℕ) → MutBor (List ℕ) → Fml
LendsTableAt memory place r = Lends memory_row table_row memory r (insert memory.now place)

-- When the loan ends, the holder of the tables (such as a memory or a mapper) is F of the last table behind the reference r.
abbrev pub LendsTableBy : (holder : RattleType) → MutBor holder.Denot → (r : MutBor (List ℕ)) → (F : List ℕ → holder.Denot) → Fml
LendsTableBy holder s r F = Lends holder table_row s r F

-- When the loan ends, the holder of the tables (such as a memory or a mapper) is F of the last table behind the reference r. If r
-- is None, nothing is lent, and the holder is unchanged.
abbrev pub LendsTableIfBy : (holder : RattleType) → MutBor holder.Denot → (r : Option (MutBor (List ℕ))) → (F : List ℕ → holder.Denot) → Fml
LendsTableIfBy holder s r F = LendsIf holder table_row s r F s.now
