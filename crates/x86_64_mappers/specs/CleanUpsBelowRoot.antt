-- Clean ups that keep each table which an entry of the root names, as other roots may name it too.
use Rattle.std.specs.Prelude.{◌≡◌, ◌<◌, ◌⊎◌, ◌-◌, ◌&&◌, nat_lt, ℕ, Bool, false, not, List, [], ◌∷◌, length, filter, map}
use Rattle.std.specs.FinMap.{retain_keys}
use Rattle.x86_64_model.specs.CleanUp.{AfterCleanUp, is_removed}
use Rattle.x86_64_model.specs.Entry.{address}
use Rattle.x86_64_model.specs.Hierarchy.{◌laid_in◌, FreesTables, Hierarchy, HoldsTable, paths, walk}
use Rattle.x86_64_model.specs.Layout.{Layout}
use Rattle.x86_64_model.specs.Lists.{In}
use Rattle.x86_64_model.specs.Memory.{IsMapping, Memory}
use Rattle.x86_64_model.specs.Path.{paths_below}
use Rattle.x86_64_model.specs.PathMap.{PathMap, entry}
use Rattle.x86_64_model.specs.Pool.{IsTable, TakesBack}
use Rattle.x86_64_model.specs.Position.{page_path}
use Rattle.x86_64_model.specs.Spaces.{AreSpaces}
use Rattle.x86_64_model.specs.Store.{Store}
use Rattle.x86_64_model.specs.Window.{begins_with}

-- Whether a clean up below the root's entries, of the positions from low to high, inclusive, removes the entry at path q: it isn't an
-- entry of the root, and a clean up of these positions removes it.
abbrev pub is_removed_below_root : (L : ℕ) → PathMap → (low high : ℕ) → List ℕ → Bool
is_removed_below_root L paths low high q = nat_lt 1 (length q) && is_removed L paths low high q

-- The outcome of a clean up below the root's entries, of the positions from low to high, inclusive: the removed entries become absent,
-- and the frames of their tables are freed, each after those below it, otherwise in ascending order of indices.
unfoldable pub clean_up_below_root : (L : ℕ) → PathMap → (low high : ℕ) → AfterCleanUp
clean_up_below_root L paths low high = record {
  paths = retain_keys paths (λ q. not (is_removed_below_root L paths low high q));
  back = map (λ q. address (entry paths q)) (filter (is_removed_below_root L paths low high) (paths_below (L - 1) []));
}

-- The frames that a clean up below the root's entries, of the positions from low to high, frees in a hierarchy, in order.
abbrev pub freed_below_root : {Lent : Type 0} → Hierarchy Lent → (low high : ℕ) → List ℕ
freed_below_root h low high = (clean_up_below_root h.layout.levels (paths h) low high).back

-- The effect of a clean up below the root's entries, of the positions from low to high, that returns frames to the store: that of its
-- rule. The store is `rest` then, and serves the same frames. The root's entries stay, and so does the result of each page walk outside
-- the recursive window. Each table is a table still or was freed.
pub record CleansUpBelowRoot {Lent : Type 0} (h : Hierarchy Lent) (store : Store) (low high : ℕ) (after : Hierarchy Lent) (rest : Store) : Type 0 where
  pub cleans : FreesTables h store.take_back store.frames (clean_up_below_root h.layout.levels (paths h) low high) after rest.frames
  pub serves : rest.serves ≡ store.serves
  pub root_entries : (i : ℕ) → entry (paths after) (i ∷ []) ≡ entry (paths h) (i ∷ [])
  pub walks : (p : ℕ) → begins_with h.layout.window (page_path h.layout.levels p) ≡ false → walk after p ≡ walk h p
  pub conserved : (f : ℕ) → HoldsTable h f → IsTable h.layout.levels h.layout.root (paths after) f ⊎ In (freed_below_root h low high) f

-- After a call on one of many address spaces led from the memory m to the memory n, all are address spaces again, with the rest of the
-- pool. Each page walk of each of them has the result that it had, outside its recursive window and that of the one that was called.
pub record KeepsSpaces (shared : ℕ → Bool) (spaces : List Layout) (one : Layout) (serves : ℕ → Bool) (m : Memory) (n : Memory) (rest : List ℕ) : Type 0 where
  pub spaces_stay : AreSpaces shared n serves rest spaces
  pub walks_stay : (b : Layout) → In spaces b → (p : ℕ) → begins_with one.window (page_path one.levels p) ≡ false → begins_with b.window (page_path b.levels p) ≡ false
      → walk (b laid_in n) p ≡ walk (b laid_in m) p

-- If one of many address spaces is cleaned up below its root's entries, whether they are shared or not, all are address spaces again, with
-- the pool that got the freed frames, and each page walk of each of them stays.
abbrev pub SpacesStayCleanedBelowRoot : Type 0
SpacesStayCleanedBelowRoot = (shared : ℕ → Bool) (spaces : List Layout) (one : Layout) → In spaces one → IsMapping one.places → 0 < one.levels
    → (store rest : Store) → TakesBack store.take_back → (m n : Memory) (low high : ℕ) → AreSpaces shared m store.serves store.frames spaces
    → CleansUpBelowRoot (one laid_in m) store low high (one laid_in n) rest → KeepsSpaces shared spaces one store.serves m n rest.frames
