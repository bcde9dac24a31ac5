-- Laws of validity as a condition on the list of tables, which a test can check.
use Rattle.std.specs.Prelude.{◌≡◌, ◌↔◌, ◌^◌, ◌<◌, ℕ, suc, Bool, true, false, List, [], ◌++◌, get_or, length, Option, IsSome}
use Rattle.std.specs.FinMap.{keys}
use Rattle.x86_64_model.specs.PathMap.{PathMap}
use Rattle.x86_64_model.specs.Memory.{Words, OnlyFrames, Memory, Places, IsMapping, Distinct, words_of}
use Rattle.x86_64_model.specs.Validity.{IsValid, paths_of}
use Rattle.x86_64_model.specs.Window.{Window, outside_window, SelfEntry}
use Rattle.x86_64_model.specs.Pool.{Fits}
use Rattle.x86_64_model.specs.private.Tables.{tables_from, NoneHuge, SoundTables}
use Rattle.x86_64_model.specs.private.Marks.{spot_of, slot_in, IsSpots, mark_all}
use Rattle.x86_64_model.specs.Pool.{serves_below}

-- Some path map makes the words a valid hierarchy from a root if and only if the one that is read from the words does.
abbrev pub ValidForItsPaths : Type 0
ValidForItsPaths = (n : ℕ) (T : Words) (root : ℕ) → ((M : PathMap) × IsValid (suc n) T root M) ↔ IsValid (suc n) T root (paths_of (suc n) T root)

-- The words are a valid hierarchy from a root if and only if the list of its tables is sound: each is in the memory and visited
-- once, only the root may be in frame 0, and no word above level three is huge.
abbrev pub SoundIsValid : Type 0
SoundIsValid = (n : ℕ) (T : Words) (root : ℕ) → SoundTables n T root (serves_below (2 ^ 40)) [] ↔ IsValid (suc n) T root (paths_of (suc n) T root)

-- A pool that serves the frames below a limit fits a hierarchy if and only if the list of its tables and of the pool's frames
-- is sound, with or without a recursive index.
abbrev pub SoundIsFitting : Type 0
SoundIsFitting = (n : ℕ) (window : Option Window) (T : Words) (root limit : ℕ) (pool : List ℕ) → OnlyFrames T → SelfEntry T root window
    → SoundTables n (outside_window window root T) root (serves_below limit) pool
    ↔ Fits (suc n) window T root (paths_of (suc n) (outside_window window root T) root) (serves_below limit) pool

-- The tables of a memory have distinct spots: the spot of a table is its number in the order of places, the indices of tables in
-- memory.
abbrev pub MemoriesHaveSpots : Type 0
MemoriesHaveSpots = (memory : Memory) (places : Places) → Distinct places → IsSpots (words_of memory places) (length (keys memory)) (spot_of memory places)

-- From clear marks, the tables from a root and the frames of a pool can all be marked if and only if they are sound.
abbrev pub MarksTell : Type 0
MarksTell = (W T : Words) (size : ℕ) (spot : ℕ → Option ℕ) → IsSpots W size spot → ((f : ℕ) → IsSome (W f) ↔ IsSome (T f))
    → (n root : ℕ) (serves : ℕ → Bool) (pool : List ℕ) (marks : List Bool) → ((k : ℕ) → k < size → get_or marks k true ≡ false) → NoneHuge n T root
    → IsSome (mark_all (slot_in spot root serves) marks (tables_from n T root ++ pool)) ↔ SoundTables n T root serves pool

-- With a frame mapping, only frames have tables in a memory.
abbrev pub MappingsShowFrames : Type 0
MappingsShowFrames = (memory : Memory) (places : Places) → IsMapping places → OnlyFrames (words_of memory places)
