-- What the tests of a hierarchy check of its tables and of a pool.
use Rattle.std.specs.Prelude.{◌≡◌, ℕ, Bool, List, Option, Some}
use Rattle.x86_64_model.specs.Memory.{Memory, Places, Words}
use Rattle.x86_64_model.specs.Pool.{serves_below}
use Rattle.x86_64_model.specs.private.Marks.{mark_all}
use Rattle.x86_64_model.specs.private.Tables.{tables_from, without_word, NoneHuge, SoundTables}
use Rattle.x86_64_model.specs.Window.{SelfEntry}
use Rattle.x86_64_tables.specs.SelfEntries.{window_in}
use Rattle.x86_64_tables.specs.Views.{words_seen, mark_of}
use Rattle.x86_64_tables.specs.declared.phys_memory.validity.HierarchyTest.{HierarchyTest}

-- The tables from the root through this many levels below it, and a pool's frames, are each in the memory, there once, and served
-- if they aren't the root, and no word above level three is huge. If there is a recursive index, the root's word at this index is
-- present, isn't huge and names the root, and the rest is so with this word read as 0.
pub record IsSound (levels : ℕ) (T : Words) (root : ℕ) (recursive : Option ℕ) (serves : ℕ → Bool) (pool : List ℕ) : Type 0 where
  pub self : SelfEntry T root (window_in T root recursive)
  pub tables : SoundTables levels (without_word recursive root T) root serves pool

-- ---- of a test, given the tables of its memory and the places of its frames

-- The frames of the tables that a test of a hierarchy meets, from the root through this many levels below it, each table before
-- those below it. `tables` and `places` say which tables the test's memory has, and where frames lie in it.
abbrev pub tables_met : {L T P : Type 0} → (tables : T → Memory) → (places : P → Places) → HierarchyTest L T P → (levels : ℕ) → List ℕ
tables_met tables places test levels = tables_from levels (words_seen tables places test.view) test.view.root

-- The tables that a test of a hierarchy meets, from the root through this many levels below it, and a pool's frames are each in
-- the memory, there once, and with a number from 1 to the test's limit - 1 unless they are the root. No word above level three is
-- huge.
abbrev pub TablesSoundFor : {L T P : Type 0} → (tables : T → Memory) → (places : P → Places) → HierarchyTest L T P → (levels : ℕ) → (pool : List ℕ) → Type 0
TablesSoundFor tables places test levels pool = SoundTables levels (words_seen tables places test.view) test.view.root (serves_below test.limit) pool

-- No word above level three of the tested hierarchy is huge, and `new` are the marks after each of its tables, from the root
-- through this many levels below it, is met once. None of these tables has its mark in `marks`.
abbrev pub AreMarked : {L T P : Type 0} → (tables : T → Memory) → (places : P → Places) → HierarchyTest L T P → (levels : ℕ) → (marks new : List Bool) → Type 0
AreMarked tables places test levels marks new =
    NoneHuge levels (words_seen tables places test.view) test.view.root × (Some new ≡ mark_all (mark_of tables places test) marks (tables_met tables places test levels))
