-- What the tests of a hierarchy and of a pool return.
use Rattle.std.specs.Prelude.{◌≡◌, ◌↔◌, ◌⊎◌, ℕ, Bool, cond, List, length}
use Rattle.x86_64_model.specs.Hierarchy.{Hierarchy, words}
use Rattle.x86_64_tables.specs.LentPool.{FitsRoom, stacked}
use Rattle.x86_64_c.specs.Status as status

-- The status of a test: OK if it passed, and otherwise NOT_VALID.
abbrev pub test_status : (passed : Bool) → ℕ
test_status passed = cond passed status.ok status.not_valid

-- The status of a test is OK if and only if this holds, and otherwise NOT_VALID.
pub record TellsWhether (Holds : Type 0) (s : ℕ) : Type 0 where
  pub passes : (s ≡ status.ok) ↔ Holds
  pub otherwise : (s ≡ status.ok) ⊎ (s ≡ status.not_valid)

-- The hierarchy is valid, a pool with these free frames fits it, and so many places are room for all frames that the pool may ever
-- hold.
abbrev pub FitsRoomFor : Hierarchy (Unit {0}) → (capacity : ℕ) → (pool : List ℕ) → Type 0
FitsRoomFor h capacity pool = FitsRoom h.layout.levels (words h) h.layout.root capacity pool

-- The hierarchy is valid, a pool fits it whose free frames are the first entries of an array, and the array has room for all frames
-- that the pool may ever hold.
abbrev pub FitsArray : Hierarchy (Unit {0}) → (entries : List ℕ) → (count : ℕ) → Type 0
FitsArray h entries count = FitsRoomFor h (length entries) (stacked entries count)
