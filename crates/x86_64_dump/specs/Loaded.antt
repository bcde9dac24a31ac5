-- Loaded: the contents of tables that were read, and why tables can't be read.
use Rattle.std.specs.Prelude.{◌≡◌, ◌+◌, ◌*◌, ◌<◌, ◌^◌, ℕ, Bool, true, IsSome, List, Vec, map, ⊤}
use Rattle.std.specs.FinMap.{get, len}
use Rattle.std.specs.List.{range_with_len}
use Rattle.x86_64_model.specs.Memory.{Memory, Words, words_of, identity_places}
use Rattle.x86_64_model.specs.PageWalk.{page_walk}
use Rattle.x86_64_dump.specs.declared.error.DumpError.{DumpError}
use Rattle.x86_64_dump.specs.declared.error.DumpError.TheVariants as errors
use Rattle.x86_64_dump.specs.Tables.{tables_by_level, words_in_frames}
use Rattle.x86_64_dump.specs.declared.tables.dump_tables.DumpTables.{DumpTables}

-- The words of the tables that were read, by their frames.
abbrev pub loaded_words : DumpTables → Words
loaded_words tables = words_of tables.memory identity_places

-- Frames by level, each level as a list instead of a vector.
abbrev pub frames_of : {A : Type 0} → List (Vec ℕ A) → List (List ℕ)
frames_of levels = map (λ frames. frames.items) levels

-- The frames of the tables that were read, level by level, level one first.
abbrev pub frames_in : DumpTables → List (List ℕ)
frames_in tables = frames_of tables.frames.items

-- The tables are those that a root leads to in W, with L levels of tables: their frames level by level, and their words.
pub record AreTables (L : ℕ) (W : Words) (root : ℕ) (tables : DumpTables) : Type 0 where
  pub frames : frames_in tables ≡ tables_by_level L W root
  pub words : loaded_words tables ≡ words_in_frames (frames_in tables) W

-- The memory holds the tables in the frames of these levels and nothing else. The place of a table is the number of its frame.
pub record HoldsTables (levels : List (List ℕ)) (W : Words) (memory : Memory) : Type 0 where
  pub words : words_of memory identity_places ≡ words_in_frames levels W
  pub places : (place : ℕ) → IsSome (get memory place) → place * 4096 < 2 ^ 52

-- A root leads to `count` tables in W, with L levels of tables. A table at several levels counts once.
abbrev pub IsTableCount : (L : ℕ) → Words → (root count : ℕ) → Type 0
IsTableCount L W root count = (memory : Memory) × HoldsTables (tables_by_level L W root) W memory × (len memory ≡ count)

-- As many tables were read as a root leads to in W, with L levels of tables.
abbrev pub HasCount : (L : ℕ) → Words → (root : ℕ) → DumpTables → Type 0
HasCount L W root tables = IsTableCount L W root (len tables.memory)

-- Each page walk from a root with L levels of tables has the same result in V and in W.
abbrev pub SameWalks : (L : ℕ) → (V W : Words) → (root : ℕ) → Type 0
SameWalks L V W root = (position : ℕ) → page_walk L V root position ≡ page_walk L W root position

-- The numbers from 1 to a last one, in order.
abbrev pub up_to : (last : ℕ) → List ℕ
up_to last = map (λ i. i + 1) (range_with_len 0 last)

-- An observer was called with the numbers from 1 to some last one, in order.
abbrev pub Counts : {G : Type 0} → (Told : G → G → List ℕ → Type 0) → (before after : G) → Type 0
Counts Told before after = (last : ℕ) × Told before after (up_to last)

-- The error is no fault of the file: memory allocation failed, or a read, if reads may fail.
abbrev pub MayFail : (may_fail : Bool) → DumpError → Type 0
MayFail may errors.OutOfMemory = ⊤
MayFail may (errors.Read error) = may ≡ true
MayFail may (errors.Fault fault) = ⊥
