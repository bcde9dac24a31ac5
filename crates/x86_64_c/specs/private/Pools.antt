-- How a pool in an array that the caller lends is used.
use Rattle.std.specs.Prelude.{◌≡◌, ◌≤◌, ℕ, Bool, true, List, length}
use Rattle.x86_64_model.specs.Hierarchy.{Hierarchy}
use Rattle.x86_64_model.specs.Store.{Store, StoreFits, put_first}
use Rattle.x86_64_c.specs.PoolCalls.{pool_in}

-- A pool that is a stack of free frames, with the first one on top, and serves (may hold) these frames.
abbrev pub stack : (serves : ℕ → Bool) → (frames : List ℕ) → Store
stack serves frames = record { frames = frames; serves = serves; take_back = put_first }

-- The pool whose free frames are the first entries of an array fits a hierarchy, and the array has room for all of the pool's own
-- frames.
abbrev pub FitsIn : (own : List ℕ) → Hierarchy (Unit {0}) → (array : List ℕ) → (free : ℕ) → Type 0
FitsIn own h array free = (length own ≤ length array) × StoreFits h (pool_in own array free)

-- A step that does this to a pool was taken with the pool in an array. The array is as long as before, and the free frames are in
-- it.
pub record Leaves (own array : List ℕ) (free : ℕ) (left : List ℕ) (count : ℕ) (Does : (pool rest : Store) → Type 0) : Type 0 where
  pub does : Does (pool_in own array free) (pool_in own left count)
  pub room : length left ≡ length array
  pub in_array : count ≤ length left

-- A step that does this to a pool was taken with the pool in an array. If it was refused, no table and no entry of the array changed, and
-- as many frames are free as before.
abbrev pub TakesStep : (own : List ℕ) (h : Hierarchy (Unit {0})) (array : List ℕ) (free : ℕ) (Does : (pool rest : Store) → Type 0) (refused : Bool) (after : Hierarchy (Unit {0})) (left : List ℕ) (count : ℕ) → Type 0
TakesStep own h array free Does refused after left count = Leaves own array free left count Does × (refused ≡ true → (after.memory ≡ h.memory) × (left ≡ array) × (count ≡ free))
