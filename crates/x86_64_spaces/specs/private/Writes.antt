-- What is written to the table of a root.
use Rattle.std.specs.Prelude.{◌≡◌, ◌≢◌, ℕ, ◌<◌, ◌&&◌, nat_lt, Bool, cond, List, length, get_or, Option, Some, None, bit_or, slice_set}
use Rattle.std.specs.FinMap.{get}
use Rattle.x86_64_model.specs.Memory.{Memory}

-- The memory n has this table at a place, and elsewhere what the memory m has.
pub record Stores (m : Memory) (place : ℕ) (table : List ℕ) (n : Memory) : Type 0 where
  pub here : get n place ≡ Some table
  pub others : (k : ℕ) → k ≢ place → get n k ≡ get m k

-- The memory n has a table at a place with the words at the shared indices below `upto`, and 0 elsewhere. All other places have
-- what the memory m has.
pub record HasShared (shared : ℕ → Bool) (words : ℕ → ℕ) (m : Memory) (place upto : ℕ) (n : Memory) : Type 0 where
  pub table : List ℕ
  pub size : length table ≡ 512
  pub stored : Stores m place table n
  pub copied : (k : ℕ) → k < 512 → get_or table k 0 ≡ cond (shared k && nat_lt k upto) (words k) 0

-- The table of a root with its self-entry, if there is a recursive index: a present and writable entry that names the root.
abbrev pub with_self_entry : (recursive : Option ℕ) → (root : ℕ) → List ℕ → List ℕ
with_self_entry None root table = table
with_self_entry (Some r) root table = slice_set table r (bit_or root 3)
