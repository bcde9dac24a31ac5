-- How a map goes down its path: the memory and the supply (the free frames in the order they are handed out) so far, and what is
-- left to do.
use Rattle.std.specs.Prelude.{◌≡◌, ℕ, List, [], ◌∷◌, ◌++◌, map, Some, Result, Ok, Err}
use Rattle.x86_64_model.specs.Layout.{Layout}
use Rattle.x86_64_model.specs.Hierarchy.{◌laid_in◌, KeepsOthers, Owns, SupplyFits, Uses, paths}
use Rattle.x86_64_model.specs.Lists.{In}
use Rattle.x86_64_model.specs.Memory.{Memory}
use Rattle.x86_64_model.specs.MapRule.{AfterMap, map_rule}
use Rattle.x86_64_model.specs.Path.{parents}
use Rattle.x86_64_model.specs.PathMap.{PathMap, table_at}
use Rattle.x86_64_model.specs.Refusal.{Refusal, Refused}

-- A map led from the memory m and the supply s to the memory n and the rest of the supply, which fits the hierarchy. It owns no
-- frame (of the root, a table or the supply) that it didn't own before, and only words in the root, the tables and the taken frames
-- change.
pub record KeepsOwned (l : Layout) (m : Memory) (s : List ℕ) (n : Memory) (rest : List ℕ) : Type 0 where
  pub ready : SupplyFits (l laid_in n) rest
  pub own : (f : ℕ) → Owns (l laid_in n) rest f → Owns (l laid_in m) s f
  pub within : (f : ℕ) → In rest f → In s f
  pub others : KeepsOthers (Uses (l laid_in m) s rest) (l laid_in m) (l laid_in n)

-- The outcome of a map that is left to do from the table at the path pre on, where r is what is left of the page's path. The entry
-- e is to be written for the page, and names the frame.
abbrev pub mapped_from : PathMap → (supply : List ℕ) → (more added : ℕ) → (pre r : List ℕ) → (e frame : ℕ) → AfterMap
mapped_from M s more added pre r e frame = map_rule M s more added (map (λ x. pre ++ x) (parents r)) (pre ++ r) e frame

-- A map is on its way down the parents of a page: the indices `done` led to the table in the frame g, and `left` are to come. The
-- outcome of the map in the memory m is that of what is left to do in the memory n, with the rest of the supply.
pub record IsAt (l : Layout) (m : Memory) (s : List ℕ) (more : ℕ) (path done left : List ℕ) (n : Memory) (rest : List ℕ) (g : ℕ) : Type 0 where
  pub owned : KeepsOwned l m s n rest
  pub leads : table_at l.levels l.root (paths (l laid_in n)) done ≡ Some g
  pub outcome : (last e frame : ℕ)
      → mapped_from (paths (l laid_in m)) s more l.added_flags [] (path ++ last ∷ []) e frame ≡ mapped_from (paths (l laid_in n)) rest more l.added_flags done (left ++ last ∷ []) e frame

-- A map was refused for this reason on its way down the parents of a page, whatever the page's last index is. It left the memory n
-- and the rest of the supply.
pub record IsRefused (l : Layout) (m : Memory) (s : List ℕ) (more : ℕ) (path : List ℕ) (n : Memory) (rest : List ℕ) (why : Refusal) : Type 0 where
  pub owned : KeepsOwned l m s n rest
  pub outcome : (last e frame : ℕ)
      → mapped_from (paths (l laid_in m)) s more l.added_flags [] (path ++ last ∷ []) e frame ≡ record { paths = paths (l laid_in n); supply = rest; answer = Refused why }

-- The tables along the path of a page's parents exist in the memory n, with the last of them in the frame of the result, or a map
-- was refused on its way down this path.
abbrev pub IsDown : Layout → Memory → (supply : List ℕ) → (more : ℕ) → (path : List ℕ) → Result ℕ Refusal → Memory → (rest : List ℕ) → Type 0
IsDown l m s more path (Ok g) n rest = IsAt l m s more path path [] n rest g
IsDown l m s more path (Err why) n rest = IsRefused l m s more path n rest why
