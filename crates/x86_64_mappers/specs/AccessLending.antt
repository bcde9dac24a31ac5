-- What a mapper becomes when a table or an entry that it lent comes back.
use Rattle.std.specs.Prelude.{ℕ, List, [], unwrap_or, slice_set}
use Rattle.std.specs.Borrow.{Lends, MutBor, Fml, RattleType}
use Rattle.std.specs.FinMap.{insert}
use Rattle.x86_64_model.specs.Layout.{Layout}
use Rattle.x86_64_model.specs.Memory.{Memory}
use Rattle.x86_64_model.specs.Hierarchy.{◌laid_in◌, Hierarchy, words}
use Rattle.x86_64_tables.specs.PageTable.{zero_words}
use Rattle.x86_64_tables.specs.contracts.page_table.entry.PageTableEntry.{the_row as entry_row}

-- The words of the table in a frame, which lies in the memory where the layout says, or no words if the memory has no such table.
abbrev pub table_in : Layout → Memory → (frame : ℕ) → List ℕ
table_in l m f = unwrap_or (words (l laid_in m) f) []

-- The words of the table in a frame of the hierarchy, with another word at an index.
abbrev pub table_with : {Lent : Type 0} → Hierarchy Lent → (frame index word : ℕ) → List ℕ
table_with h f i w = slice_set (table_in h.layout h.memory f) i w

-- The hierarchy's memory, with a table put at the place of a frame.
abbrev pub put_table : {Lent : Type 0} → Hierarchy Lent → (frame : ℕ) → List ℕ → Memory
put_table h f table = insert h.memory (h.layout.places.place f) table

-- The hierarchy after all words of the table in a frame were set to 0.
abbrev pub with_zeros : {Lent : Type 0} → Hierarchy Lent → (frame : ℕ) → Hierarchy Lent
with_zeros h f = record { layout = h.layout; memory = put_table h f zero_words; lent = h.lent }

-- A mapper lends the entry behind the reference r. When the loan ends, the mapper is F of the entry's last word.
abbrev pub LendsEntryBy : (mapper : RattleType) → MutBor mapper.Denot → (r : MutBor ℕ) → (F : ℕ → mapper.Denot) → Fml
LendsEntryBy mapper s r F = Lends mapper entry_row s r F
