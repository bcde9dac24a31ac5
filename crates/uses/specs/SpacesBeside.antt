-- What calls on one address space leave of those beside it.
use Rattle.std.specs.Prelude.{◌≡◌, ◌≢◌, ℕ, Bool, false, List, [], ◌∷◌}
use Rattle.std.specs.List.{AllByRecursion}
use Rattle.x86_64_model.specs.Call.{Call}
use Rattle.x86_64_model.specs.Layout.{Layout}
use Rattle.x86_64_model.specs.Lists.{In}
use Rattle.x86_64_model.specs.Hierarchy.{◌laid_in◌, Hierarchy, paths}
use Rattle.x86_64_model.specs.Memory.{Memory}
use Rattle.x86_64_model.specs.PathMap.{entry}
use Rattle.x86_64_model.specs.Spaces.{AreSpaces, Avoids, LeavesRootEntry}
use Rattle.x86_64_model.specs.Store.{Store, KeepsPool}

-- The address spaces with another root than this one keep their path maps from the memory m to the memory n.
abbrev pub OtherSpacesStay : (spaces : List Layout) → Layout → (m n : Memory) → Type 0
OtherSpacesStay spaces one m n = (other : Layout) → In spaces other → one.root ≢ other.root → paths (other laid_in n) ≡ paths (other laid_in m)

-- Calls were executed on one of any address spaces, with a store. Its memory is n then, and the rest of the store is left.
pub record LeavesSpaces {Lent : Type 0} (one : Hierarchy Lent) (store : Store) (calls : List Call) (n : Memory) (rest : List ℕ) : Type 0 where
  -- The rest fits the space again, and free frames and frames of tables together are the same set as before. No word changed
  -- outside the root, the tables and the frames that were free before.
  pub keeps : KeepsPool one.layout store.serves one.memory store.frames n rest
  -- If no call touches anything below a shared index, all are address spaces again, and the others keep their path maps.
  pub users : (shared : ℕ → Bool) (spaces : List Layout) → In spaces one.layout → AreSpaces shared one.memory store.serves store.frames spaces
      → AllByRecursion (Avoids one.layout.levels shared) calls → AreSpaces shared n store.serves rest spaces × OtherSpacesStay spaces one.layout one.memory n
  -- If no index is shared, all are address spaces again, whichever calls these are, and the others keep their path maps.
  pub apart : (spaces : List Layout) → In spaces one.layout → AreSpaces (λ i. false) one.memory store.serves store.frames spaces
      → AreSpaces (λ i. false) n store.serves rest spaces × OtherSpacesStay spaces one.layout one.memory n
  -- If no call changes the root's entries at the shared indices, all are address spaces again.
  pub kernel : (shared : ℕ → Bool) (spaces : List Layout) → In spaces one.layout → AreSpaces shared one.memory store.serves store.frames spaces
      → AllByRecursion (LeavesRootEntry one.layout.levels shared (λ i. entry (paths one) (i ∷ []))) calls → AreSpaces shared n store.serves rest spaces
