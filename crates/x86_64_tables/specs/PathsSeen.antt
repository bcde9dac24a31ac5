-- The path map that a comparison of two hierarchies reads from each.
use Rattle.std.specs.Prelude.{◌≡◌, ◌⊎◌, ◌<◌, suc, ℕ, List, length, Bool, true, false, Option, is_some}
use Rattle.x86_64_model.specs.Alike.{AlikeTables}
use Rattle.x86_64_model.specs.Validity.{read_at, paths_of}
use Rattle.x86_64_model.specs.Memory.{Memory, Places, Words, identity_places, words_of}
use Rattle.x86_64_model.specs.PathMap.{PathMap}
use Rattle.x86_64_model.specs.Window.{outside_window}
use Rattle.x86_64_tables.specs.SelfEntries.{window_in}

-- The mapping by which a comparison of hierarchies finds tables: each frame lies at the place with its number if `by_number` is
-- true, and where the given mapping says otherwise.
abbrev pub places_for : (by_number : Bool) → Places → Places
places_for false places = places
places_for true places = identity_places

-- The path map, the entry at each path, of the hierarchy of this many levels that words hold below a root. If there is a
-- recursive index, the root's word at this index is read as 0.
abbrev pub paths_in : (levels : ℕ) → Words → (root : ℕ) → (recursive : Option ℕ) → PathMap
paths_in levels words root recursive = paths_of levels (outside_window (window_in words root recursive) root words) root

-- The path map, the entry at each path, of the hierarchy of this many levels that a memory holds below a root. If there is a
-- recursive index, each frame lies at the place with its number, and the root's word at this index is read as 0. If there is
-- none, frames lie where the given mapping says.
abbrev pub paths_seen_at : (levels : ℕ) → Memory → Places → (root : ℕ) → (recursive : Option ℕ) → PathMap
paths_seen_at levels memory places root recursive = paths_in levels (words_of memory (places_for (is_some recursive) places)) root recursive

-- The path map, the entry at each path, of the hierarchy of four levels that a memory holds below a root. If there is a recursive
-- index, each frame lies at the place with its number, and the root's word at this index is read as 0. If there is none, frames
-- lie where the given mapping says.
abbrev pub paths_seen : Memory → Places → (root : ℕ) → (recursive : Option ℕ) → PathMap
paths_seen memory places root recursive = paths_seen_at 4 memory places root recursive

-- The path map, the entry at each path, of the hierarchy of five levels that a memory holds below a root. If there is a recursive
-- index, each frame lies at the place with its number, and the root's word at this index is read as 0. If there is none, frames
-- lie where the given mapping says.
abbrev pub paths_seen_57 : Memory → Places → (root : ℕ) → (recursive : Option ℕ) → PathMap
paths_seen_57 memory places root recursive = paths_seen_at 5 memory places root recursive

-- At each path from the table in frame f of the words T, and from the table in frame g of the words U, the two entries are equal,
-- or both name tables and differ at most in WRITABLE. Each of the two tables has n levels of tables below it.
pub record AlikeFrom (n : ℕ) (T : Words) (f : ℕ) (U : Words) (g : ℕ) : Type 0 where
  pub at : (q : List ℕ) → (read_at (suc n) T f q ≡ read_at (suc n) U g q) ⊎ ((length q < suc n) × AlikeTables (read_at (suc n) T f q) (read_at (suc n) U g q))
