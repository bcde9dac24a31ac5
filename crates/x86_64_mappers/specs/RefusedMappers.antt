-- What becomes of a memory if no recursive mapper is created from it.
use Rattle.std.specs.Prelude.{◌≡◌, ℕ, Bool, true, false, Option, Some, None, Result, Ok, Err}
use Rattle.std.specs.Borrow.{RestsIfErr, Fml}
use Rattle.x86_64_model.specs.Memory.{Memory}
use Rattle.x86_64_tables.specs.ActiveMemory.{lent}
use Rattle.x86_64_tables.specs.contracts.phys_memory.PhysMemory.{the_row as memory_row}
use Rattle.x86_64_tables.specs.declared.page_table.flags.PageTableFlags.{PageTableFlags}
use Rattle.x86_64_tables.specs.declared.phys_memory.active.Active.{Active}
use Rattle.x86_64_mappers.specs.declared.recursive_page_table.InvalidPageTable.{InvalidPageTable}
use Rattle.x86_64_mappers.specs.declared.recursive_page_table.Recursive.{Recursive}

-- The recursive mapper of an active memory, with an index and the flags of the root's entry at this index, if there is such a
-- memory. Otherwise the reason why there is no mapper.
abbrev pub wrapped_of : {L T : Type 0} → Option (Active L T) → (index : ℕ) → PageTableFlags → InvalidPageTable → Result (Recursive (Active L T) L) InvalidPageTable
wrapped_of (Some active) index flags why = Ok (record { active = active; index = index; self_flags = flags; levels = record {} })
wrapped_of None index flags why = Err why

-- The recursive mapper of an active memory, with an index and the flags of the root's entry at this index, if the memory is kept.
-- Otherwise the reason why there is no mapper.
abbrev pub made_of : {L T : Type 0} → Active L T → (kept : Bool) → (index : ℕ) → PageTableFlags → InvalidPageTable → Result (Recursive (Active L T) L) InvalidPageTable
made_of active true index flags why = Ok (record { active = active; index = index; self_flags = flags; levels = record {} })
made_of active false index flags why = Err why

-- Either a recursive mapper was created, which holds the memory that was lent, or the loan ends and the memory ends as it is now.
abbrev pub RestsUnlessMade : {L : Type 0} → Active L Memory → Result (Recursive (Active L Memory) L) InvalidPageTable → Fml
RestsUnlessMade active r = RestsIfErr memory_row active.memory (λ mapper. lent mapper.active) r (λ memory. memory ≡ active.memory.now)
