-- What a test of a hierarchy reads from the memory, and the marks that it sets.
use Rattle.std.specs.Prelude.{ℕ, Option, Some, None, cond}
use Rattle.x86_64_model.specs.Entry.{address, names_table}
use Rattle.x86_64_model.specs.Memory.{Memory, Places, Words, words_of}
use Rattle.x86_64_model.specs.private.Tables.{without_word}
use Rattle.x86_64_model.specs.private.Marks.{spot_of, slot_in}
use Rattle.x86_64_model.specs.Pool.{serves_below}
use Rattle.x86_64_tables.specs.declared.phys_memory.hierarchy_view.HierarchyView.{HierarchyView}
use Rattle.x86_64_tables.specs.declared.phys_memory.validity.HierarchyTest.{HierarchyTest}

-- The words of a memory whose frames lie where a mapping says. If there is a recursive index, the root's word at this index is
-- read as 0.
abbrev pub seen : Memory → Places → (root : ℕ) → (recursive : Option ℕ) → Words
seen memory places root recursive = without_word recursive root (words_of memory places)

-- All words of the memory of a view of a hierarchy, even the root's word at a recursive index. `tables` and `places` say which
-- tables the memory has, and where frames lie in it.
abbrev pub words_in : {L T P : Type 0} → (tables : T → Memory) → (places : P → Places) → HierarchyView L T P → Words
words_in tables places view = words_of (tables view.memory.now) (places view.mapping.now)

-- The words that a view of a hierarchy reads. If it has a recursive index, the root's word at this index is read as 0. `tables`
-- and `places` say which tables its memory has, and where frames lie in it.
abbrev pub words_seen : {L T P : Type 0} → (tables : T → Memory) → (places : P → Places) → HierarchyView L T P → Words
words_seen tables places view = seen (tables view.memory.now) (places view.mapping.now) view.root view.recursive

-- The index of a frame's mark, which is the number of the memory's places before the frame's place. None if the frame isn't in
-- the memory, or is neither the root nor has a number from 1 to `limit` - 1.
abbrev pub mark_slot : Memory → Places → (root limit : ℕ) → (frame : ℕ) → Option ℕ
mark_slot memory places root limit = slot_in (spot_of memory places) root (serves_below limit)

-- The index of a frame's mark in a test of a hierarchy. None if the frame isn't in the test's memory, or is neither the root nor
-- has a number from 1 to the test's limit - 1. `tables` and `places` say which tables the memory has, and where frames lie in it.
abbrev pub mark_of : {L T P : Type 0} → (tables : T → Memory) → (places : P → Places) → HierarchyTest L T P → (frame : ℕ) → Option ℕ
mark_of tables places test = mark_slot (tables test.view.memory.now) (places test.view.mapping.now) test.view.root test.limit

-- The frame of the table that the word of an entry above level one names. None if the word is unused or huge.
abbrev pub below_word : (word : ℕ) → Option ℕ
below_word w = cond (names_table w) (Some (address w)) None
