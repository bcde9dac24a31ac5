-- What it means that words hold a path map from a root, and that this is a valid hierarchy of L levels.
use Rattle.std.specs.Prelude.{fold, ◌<◌, zero, suc, ◌≡◌, ℕ, false, cond, List, [], ◌∷◌, ◌++◌, Option, Some, None, IsSome}
use Rattle.std.specs.FinMap.{empty}
use Rattle.x86_64_model.specs.Entry.{huge, address, names_table}
use Rattle.x86_64_model.specs.Path.{level_of, paths_below}
use Rattle.x86_64_model.specs.PathMap.{PathMap, entry, put, HasUsedAlone, table_at}
use Rattle.x86_64_model.specs.Memory.{Words, word}

-- The word at an index of the table in a frame, 0 if there is no frame.
abbrev pub entry_in : Words → (frame : Option ℕ) → (i : ℕ) → ℕ
entry_in tables None i = 0
entry_in tables (Some frame) i = word tables frame i

-- The words hold the path map from the root: each entry is the word at its index in the table that its path without the last index
-- leads to. The path map stores only used entries, and each table that it leads to is in memory.
pub record Holds (L : ℕ) (tables : Words) (root : ℕ) (paths : PathMap) : Type 0 where
  pub entries : (q : List ℕ) (i : ℕ) → entry paths (q ++ i ∷ []) ≡ entry_in tables (table_at L root paths q) i
  pub nothing_above : entry paths [] ≡ 0
  pub used_alone : HasUsedAlone paths
  pub in_memory : (q : List ℕ) (f : ℕ) → table_at L root paths q ≡ Some f → IsSome (tables f)

-- The words hold the path map as a valid hierarchy of L levels: each table, including the root, has a frame of its own, only the
-- root may be in frame 0, and no entry above level three has HUGE_PAGE.
pub record IsValid (L : ℕ) (tables : Words) (root : ℕ) (paths : PathMap) : Type 0 where
  pub holds : Holds L tables root paths
  pub own_frames : (p q : List ℕ) (f : ℕ) → table_at L root paths p ≡ Some f → table_at L root paths q ≡ Some f → p ≡ q
  pub not_zero : (i : ℕ) (q : List ℕ) → table_at L root paths (i ∷ q) ≡ Some 0 → ⊥
  pub none_huge : (q : List ℕ) → 3 < level_of L q → huge (entry paths q) ≡ false

-- The word at a path from a frame's table of level n down. It is 0 if the path is empty or longer than n, or if a word before its
-- end names no table.
abbrev pub read_at : (n : ℕ) → Words → (frame : ℕ) → List ℕ → ℕ
read_at zero tables frame q = 0
read_at (suc n) tables frame [] = 0
read_at (suc n) tables frame (i ∷ []) = word tables frame i
read_at (suc n) tables frame (i ∷ j ∷ q) = cond (names_table (word tables frame i)) (read_at n tables (address (word tables frame i)) (j ∷ q)) 0

-- The path map of L levels that words hold from a root, if they hold one.
unfoldable pub paths_of : (L : ℕ) → Words → (root : ℕ) → PathMap
paths_of L tables root = fold (λ m q. put m q (read_at L tables root q)) empty (paths_below L [])
