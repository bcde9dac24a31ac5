-- The result of one step of a map down its path, and of the whole map.
use Rattle.std.specs.Prelude.{◌≡◌, ◌⊎◌, ◌<◌, ℕ, true, false, List, [], ◌∷◌, ◌++◌, Some, None, Result, Ok, Err}
use Rattle.x86_64_model.specs.Entry.{present, huge}
use Rattle.x86_64_model.specs.Layout.{Layout}
use Rattle.x86_64_model.specs.Hierarchy.{◌laid_in◌, paths}
use Rattle.x86_64_model.specs.MapRule.{map_rule}
use Rattle.x86_64_model.specs.Memory.{Memory}
use Rattle.x86_64_model.specs.Path.{parents, level_of}
use Rattle.x86_64_model.specs.PathMap.{PathMap, entry, put, table_of, table_at}
use Rattle.x86_64_model.specs.Refusal.{Refusal, Answer, Refused}
use Rattle.x86_64_mappers.specs.private.MapSteps.{KeepsOwned, mapped_from}

-- The entry at the path p, which wasn't huge, now names a table. It is present if it was, or if the parent flags have PRESENT.
pub record Opens (M : PathMap) (more : ℕ) (p : List ℕ) (N : PathMap) : Type 0 where
  pub word : ℕ
  pub is : put M p word ≡ N
  pub was_plain : huge (entry M p) ≡ false
  pub is_present : (present more ≡ true) ⊎ (present (entry M p) ≡ true) → present word ≡ true

-- one step down from the table at pre reached the table g
pub record Reached (l : Layout) (m : Memory) (s : List ℕ) (more : ℕ) (pre : List ℕ) (i : ℕ) (n : Memory) (rest : List ℕ) (g : ℕ) : Type 0 where
  pub owned : KeepsOwned l m s n rest
  pub leads : table_at l.levels l.root (paths (l laid_in n)) (pre ++ i ∷ []) ≡ Some g
  pub opens : Opens (paths (l laid_in m)) more (pre ++ i ∷ []) (paths (l laid_in n))
  pub outcome : (j : ℕ) (r : List ℕ) (e frame : ℕ)
      → mapped_from (paths (l laid_in m)) s more l.added_flags pre (i ∷ j ∷ r) e frame ≡ mapped_from (paths (l laid_in n)) rest more l.added_flags (pre ++ i ∷ []) (j ∷ r) e frame

-- one step down was refused
pub record Stopped (l : Layout) (m : Memory) (s : List ℕ) (more : ℕ) (pre : List ℕ) (i : ℕ) (n : Memory) (rest : List ℕ) (why : Refusal) : Type 0 where
  pub owned : KeepsOwned l m s n rest
  pub outcome : (j : ℕ) (r : List ℕ) (e frame : ℕ)
      → mapped_from (paths (l laid_in m)) s more l.added_flags pre (i ∷ j ∷ r) e frame ≡ record { paths = paths (l laid_in n); supply = rest; answer = Refused why }

abbrev pub IsStep : Layout → Memory → (supply : List ℕ) → (more : ℕ) → (pre : List ℕ) → (i : ℕ) → Result ℕ Refusal → Memory → (rest : List ℕ) → Type 0
IsStep l m s more pre i (Ok g) n rest = Reached l m s more pre i n rest g
IsStep l m s more pre i (Err why) n rest = Stopped l m s more pre i n rest why

-- the path q was mapped to the entry e, which names the frame, or the map was refused
pub record IsPathMapped (l : Layout) (m : Memory) (s : List ℕ) (more : ℕ) (q : List ℕ) (e frame : ℕ) (answer : Answer) (n : Memory) (rest : List ℕ) : Type 0 where
  pub owned : KeepsOwned l m s n rest
  pub outcome : map_rule (paths (l laid_in m)) s more l.added_flags (parents q) q e frame ≡ record { paths = paths (l laid_in n); supply = rest; answer = answer }

-- a word that may be the entry of a page at a path
pub record IsLeaf (L : ℕ) (q : List ℕ) (e : ℕ) : Type 0 where
  pub no_table : table_of L q e ≡ None
  pub none_huge : 3 < level_of L q → huge e ≡ false
