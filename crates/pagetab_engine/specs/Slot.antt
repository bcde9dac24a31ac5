-- Words in memory, by the places of tables (a place is the index of a table in memory).
use Rattle.std.specs.Prelude.{◌/◌, ℕ, List, Option, Some, None, option_and_then, option_map, slice_set, slice_index}
use Rattle.std.specs.FinMap.{get, insert}
use Rattle.x86_64_model.specs.Memory.{Memory}
use Rattle.pagetab_engine.specs.Starts.{index_in, table_in}
use Rattle.pagetab_engine.specs.declared.slot.Slot.{Slot}

-- The slot at an index of the table in the frame that starts at an address: the table's place is the frame's number.
abbrev pub slot_at : (start index : ℕ) → Slot
slot_at start index = record { place = start / 4096; index = index }

-- The slot at an index of the table in the frame that starts at an address, if it is one in a memory with this number of places.
abbrev pub slot_in : (places start index : ℕ) → Option Slot
slot_in places start index = option_and_then (λ frame. option_map (slot_at frame) (index_in index)) (table_in places start)

-- The word at an index of a table, or 0 if there is no table.
abbrev pub word_of_table : Option (List ℕ) → (index : ℕ) → ℕ
word_of_table None index = 0
word_of_table (Some table) index = slice_index table index

-- The word at an index of the table at a place, or 0 if there is no table.
abbrev pub word_at_place : Memory → (place index : ℕ) → ℕ
word_at_place memory place index = word_of_table (get memory place) index

-- The memory after a word was set in this table at a place, unchanged if there is no table.
abbrev pub stored_in : Memory → (place index word : ℕ) → Option (List ℕ) → Memory
stored_in memory place index word None = memory
stored_in memory place index word (Some table) = insert memory place (slice_set table index word)

-- The memory after a word was set in the table at a place, unchanged if there is no table there.
abbrev pub stored : Memory → (place index word : ℕ) → Memory
stored memory place index word = stored_in memory place index word (get memory place)
