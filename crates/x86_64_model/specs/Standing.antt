-- Pages that stand: each is mapped by its own entry, below parents that take none of its rights away.
use Rattle.std.specs.Prelude.{◌≡◌, ℕ, true, List}
use Rattle.std.specs.List.{AllByRecursion}
use Rattle.x86_64_model.specs.Arrivals.{Asks}
use Rattle.x86_64_model.specs.Entry.{has, names_table}
use Rattle.x86_64_model.specs.MapRule.{leaf_entry, parent_part}
use Rattle.x86_64_model.specs.Path.{parents}
use Rattle.x86_64_model.specs.PathMap.{PathMap, entry}

-- The entry names a table, and has each of these flags.
pub record IsParent (given e : ℕ) : Type 0 where
  pub is_table : names_table e ≡ true
  pub has_flags : (flag : ℕ) → has given flag ≡ true → has e flag ≡ true

-- The page at a path is mapped to the frame as a `map_to` with these flags maps it: its own entry is the requested one, and each
-- parent names a table and has the parent flags.
pub record IsMappedIn (L level : ℕ) (paths : PathMap) (page : List ℕ) (frame flags : ℕ) : Type 0 where
  pub asks : Asks L level page frame flags
  pub own_entry : entry paths page ≡ leaf_entry L page frame flags
  pub below : AllByRecursion (λ p. IsParent (parent_part flags) (entry paths p)) (parents page)
