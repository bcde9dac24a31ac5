-- The tables of address spaces as one list: the root of each, and the tables below those of its indices that no earlier one shares.
use Rattle.std.specs.Prelude.{◌≡◌, ◌⊎◌, ◌-◌, ◌==◌, ℕ, suc, Bool, true, cond, List, [], ◌∷◌, ◌++◌, Option, None, IsSome, get_or}
use Rattle.std.specs.List.{flat_map}
use Rattle.x86_64_model.specs.Entry.{address, names_table}
use Rattle.x86_64_model.specs.Lists.{In, EachOnce}
use Rattle.x86_64_model.specs.Memory.{Memory, Places, Words, word, words_of}
use Rattle.x86_64_model.specs.Path.{indices}
use Rattle.x86_64_model.specs.Pool.{serves_below}
use Rattle.x86_64_model.specs.private.Tables.{tables_from, without_word, NoneHuge}
use Rattle.x86_64_model.specs.Window.{SelfEntry}
use Rattle.x86_64_spaces.specs.declared.fitting.SpacesTest.{SpacesTest}
use Rattle.x86_64_spaces.specs.declared.space.Space.{Space}
use Rattle.x86_64_spaces.specs.SpaceGroups.{Grouped, spaces_of, are_one}
use Rattle.x86_64_spaces.specs.SpaceLayouts.{roots_of}
use Rattle.x86_64_tables.specs.SelfEntries.{window_in}
use Rattle.x86_64_tables.specs.Views.{mark_slot}

-- The words of all tables as a space sees them: its root's word at the recursive index is read as 0.
abbrev pub words_without : Words → Space → Words
words_without T space = without_word space.recursive space.root T

-- The word of a space's root at an index, read as 0 at the recursive index.
abbrev pub root_words : Memory → Places → Space → (index : ℕ) → ℕ
root_words memory places space i = word (words_without (words_of memory places) space) space.root i

-- The table that entry i of the table in a frame names, and all tables below it through n levels, or none if the entry names no
-- table.
abbrev pub part : (n : ℕ) → Words → (frame i : ℕ) → List ℕ
part n T f i = cond (names_table (word T f i)) (tables_from n T (address (word T f i))) []

-- The tables that the entries of the table in a frame name at the indices for which a test holds, and all tables below them through
-- n levels.
abbrev pub parts_where : (test : ℕ → Bool) → (n : ℕ) → Words → (frame : ℕ) → List ℕ
parts_where test n T f = flat_map (λ i. cond (test i) (part n T f i) []) indices

-- ---- who has the tables below an index

-- The space number n of a list, counted from 0, with the group in which its root is at each index.
abbrev pub grouped_at : List Grouped → (n : ℕ) → Grouped
grouped_at spaces n = get_or spaces n (record { space = record { root = 0; recursive = None }; group = λ i. None })

-- The first space of a list whose root is in a group at an index, or the given one if there is none.
abbrev pub first_in : List Grouped → (group : Option ℕ) → (index : ℕ) → Grouped → Grouped
first_in [] g i s = s
first_in (t ∷ spaces) g i s = cond (are_one (t.group i) g) t (first_in spaces g i s)

-- The first space of a list that shares an index with a space, or this space itself if there is none.
abbrev pub owner : List Grouped → Grouped → (index : ℕ) → Grouped
owner spaces s i = first_in spaces (s.group i) i s

-- Whether no earlier space of a list shares an index with a space.
abbrev pub owns : List Grouped → Grouped → (index : ℕ) → Bool
owns spaces s i = (owner spaces s i).space.root == s.space.root

-- The root of a space and all tables below the indices that no earlier space of the list shares with it. The root names tables that
-- have n levels of tables below them.
abbrev pub own_tables : List Grouped → (n : ℕ) → Words → Grouped → List ℕ
own_tables spaces n T s = s.space.root ∷ parts_where (owns spaces s) n (words_without T s.space) s.space.root

-- The roots of all spaces of a list, each followed by all tables below the indices that no earlier space shares with it. The roots
-- name tables that have n levels of tables below them.
abbrev pub space_tables : List Grouped → (n : ℕ) → Words → List ℕ
space_tables spaces n T = flat_map (own_tables spaces n T) spaces

-- The root of a space has its self-entry if there is a recursive index, and at each index the word of the first root that shares
-- the index. No word above level three is huge.
pub record IsAlike (spaces : List Grouped) (n : ℕ) (T : Words) (s : Grouped) : Type 0 where
  pub self : SelfEntry T s.space.root (window_in T s.space.root s.space.recursive)
  pub none_huge : NoneHuge (suc n) (words_without T s.space) s.space.root
  pub alike : (i : ℕ) → word (words_without T s.space) s.space.root i ≡ word (words_without T (owner spaces s i).space) (owner spaces s i).space.root i

-- Each root has its self-entry, if there is a recursive index, no huge word above level three, and at each index the word of the
-- first root that shares the index. The tables of the spaces and the frames of a pool are each in the memory and met once, and all
-- but the roots are served.
pub record SoundSpaces (spaces : List Grouped) (n : ℕ) (T : Words) (serves : ℕ → Bool) (pool : List ℕ) : Type 0 where
  pub alike : (s : Grouped) → In spaces s → IsAlike spaces n T s
  pub each_once : EachOnce (space_tables spaces n T ++ pool)
  pub in_memory : (f : ℕ) → In (space_tables spaces n T ++ pool) f → IsSome (T f)
  pub served : (f : ℕ) → In (space_tables spaces n T ++ pool) f → In (roots_of (spaces_of spaces)) f ⊎ (serves f ≡ true)

-- ---- what a test looks at

-- The tables in a memory and where frames lie in it, the number of levels of tables below those that a root names, and the end of
-- the numbers of frames that may be met.
pub record Tested : Type 0 where
  pub memory : Memory
  pub places : Places
  pub levels : ℕ
  pub limit : ℕ

-- What a test of spaces looks at: the tables in its memory, the places of its mapping, the number of levels of tables below those
-- that a root names, and the limit of the frames' numbers.
abbrev pub tested : {L T P : Type 0} → (levels : ℕ) → (tables : T → Memory) → (places : P → Places) → SpacesTest L T P → Tested
tested levels tables places test = record {
  memory = tables test.memory.now;
  places = places test.mapping.now;
  levels = (levels - 1) - 1;
  limit = test.limit;
}

-- The words of the tables that a test looks at.
abbrev pub tested_words : Tested → Words
tested_words test = words_of test.memory test.places

-- The word of a space's root at an index as a test reads it: 0 at the recursive index.
abbrev pub seen_words : Tested → Space → (index : ℕ) → ℕ
seen_words test space = root_words test.memory test.places space

-- A space is like those of a list before it: its root has the words of the first root that shares each index, its self-entry if
-- there is a recursive index, and no huge word above level three below it.
abbrev pub IsLike : Tested → List Grouped → Grouped → Type 0
IsLike test spaces s = IsAlike spaces test.levels (tested_words test) s

-- At each index, the root of a space has the word of the first root of a list that shares the index with it.
abbrev pub HasSharedWords : Tested → List Grouped → Grouped → Type 0
HasSharedWords test spaces s = (i : ℕ) → seen_words test s.space i ≡ seen_words test (owner spaces s i).space i

-- The spaces that a test looks at and a pool are sound: roots have the same words at shared indices, and all tables of the spaces
-- and all frames of the pool are in the memory, met once and, but for the roots, served.
abbrev pub AreSound : Tested → List Grouped → (pool : List ℕ) → Type 0
AreSound test spaces pool = SoundSpaces spaces test.levels (tested_words test) (serves_below test.limit) pool

-- The roots of all spaces of a list that a test looks at, each followed by all tables below the indices that no earlier space
-- shares with it.
abbrev pub all_tables : Tested → List Grouped → List ℕ
all_tables test spaces = space_tables spaces test.levels (tested_words test)

-- The root of a space that a test looks at and all tables below the indices that no earlier space of the list shares with it.
abbrev pub tables_of : Tested → List Grouped → Grouped → List ℕ
tables_of test spaces s = own_tables spaces test.levels (tested_words test) s

-- All tables of a space that a test looks at below the indices that no earlier space of the list shares with it, without the root.
abbrev pub tables_below : Tested → List Grouped → Grouped → List ℕ
tables_below test spaces s = parts_where (owns spaces s) test.levels (words_without (tested_words test) s.space) s.space.root

-- The index of a frame's mark while a space is tested, if the frame has one.
abbrev pub slot_of : Tested → Grouped → (frame : ℕ) → Option ℕ
slot_of test s = mark_slot test.memory test.places s.space.root test.limit
