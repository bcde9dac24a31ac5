-- The way down the parents of a page during a map: the entries so far are present, and those to come are or will be.
use Rattle.std.specs.Prelude.{suc, ◌≡◌, ◌⊎◌, ◌<◌, ℕ, true, false, List, length, take, get_or, Some}
use Rattle.x86_64_model.specs.Entry.{present, huge}
use Rattle.x86_64_model.specs.Layout.{Layout}
use Rattle.x86_64_model.specs.Hierarchy.{◌laid_in◌, paths}
use Rattle.x86_64_model.specs.Memory.{Memory}
use Rattle.x86_64_model.specs.PathMap.{PathMap, entry, table_at}

-- The parent flags have PRESENT, or every entry on the path of a page's parents is present, down to and including the first huge
-- one.
abbrev pub WillBePresent : PathMap → (parent_flags : ℕ) → (parents : List ℕ) → Type 0
WillBePresent M more path = (present more ≡ true)
    ⊎ ((j : ℕ) → j < length path → ((h : ℕ) → h < j → huge (entry M (take (suc h) path)) ≡ false) → present (entry M (take (suc j) path)) ≡ true)

-- The first k parents of a page are present and lead to the table in a frame. The parent flags have PRESENT, or the parents to come
-- are present, down to and including the first huge one.
pub record IsOpenWay (l : Layout) (m : Memory) (parent_flags : ℕ) (path : List ℕ) (k frame : ℕ) : Type 0 where
  pub leads : table_at l.levels l.root (paths (l laid_in m)) (take k path) ≡ Some frame
  pub small : (j : ℕ) → j < k → get_or path j 0 < 512
  pub are_present : (j : ℕ) → j < k → present (entry (paths (l laid_in m)) (take (suc j) path)) ≡ true
  pub to_come : WillBePresent (paths (l laid_in m)) parent_flags path
