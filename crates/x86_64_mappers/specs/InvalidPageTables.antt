-- Why a recursive mapper is refused.
use Rattle.std.specs.Prelude.{zero, suc, ◌==◌, ◌&&◌, ◌%◌, ℕ, Bool, true, if◌then◌else◌, Option, Some, None}
use Rattle.x86_64_model.specs.Memory.{Memory, identity_places, words_of}
use Rattle.x86_64_model.specs.Position.{index}
use Rattle.x86_64_tables.specs.ActiveMemory.{memory_of, cr3_of}
use Rattle.x86_64_tables.specs.SelfEntries.{has_self_entry}
use Rattle.x86_64_tables.specs.declared.phys_memory.active.Active.{Active}
use Rattle.x86_64_mappers.specs.declared.recursive_page_table.InvalidPageTable.{InvalidPageTable}
use Rattle.x86_64_mappers.specs.declared.recursive_page_table.InvalidPageTable.TheVariants.{NotRecursive, NotActive}

-- Whether the indices of a position (an address counted without the non-canonical gap) from a level down to level one all equal
-- this index.
abbrev pub all_indices_are : (level index position : ℕ) → Bool
all_indices_are zero r p = true
all_indices_are (suc n) r p = (index (suc n) p == r) && all_indices_are n r p

-- Whether a position (an address counted without the non-canonical gap) can be the root's window in a recursive mapper: its indices
-- of all levels are equal, and its offset in the 4KiB page is 0.
abbrev pub is_root_window : (levels position : ℕ) → Bool
is_root_window levels p = all_indices_are levels (index levels p) p && (p % 4096 == 0)

-- Whether a table's frame is the one that CR3 names, and the table's word at an index is present, not huge and names the table
-- itself. In the memory each frame lies at the place of its number.
abbrev pub is_active : Memory → (cr3 table index : ℕ) → Bool
is_active memory cr3 table r = (table == cr3) && has_self_entry (words_of memory identity_places) cr3 r

-- The reason why no recursive mapper is created for the table in a frame, by the frame in CR3 and the position (an address counted
-- without the non-canonical gap) that is said to be the table's window. None if a mapper is created.
abbrev pub refuses_at : (levels : ℕ) → Memory → (cr3 table position : ℕ) → Option InvalidPageTable
refuses_at levels memory cr3 table p = if is_root_window levels p then (if is_active memory cr3 table (index levels p) then None else Some NotActive) else Some NotRecursive

-- The reason why no recursive mapper of an active memory is created for the table in a frame, with a position (an address counted
-- without the non-canonical gap) that is said to be the table's window. None if a mapper is created.
abbrev pub invalid_table : {N : Type 0} → (levels : ℕ) → Active N Memory → (table position : ℕ) → Option InvalidPageTable
invalid_table levels active table p = refuses_at levels (memory_of active) (cr3_of active) table p
