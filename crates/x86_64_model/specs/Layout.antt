-- The fixed part of a mapper: all but the memory that it was lent. No call changes it.
use Rattle.std.specs.Prelude.{ℕ, Option}
use Rattle.x86_64_model.specs.Memory.{Places}
use Rattle.x86_64_model.specs.Window.{Window}

-- The fixed part of a mapper, which no call changes: the number of table levels, the places of frames (a place is the index of a
-- table in memory), the root's frame, the recursive index with its self-entry if there is one, and the flags that a new table entry
-- gets in addition to the parent flags.
pub record Layout : Type 0 where
  pub levels : ℕ
  pub places : Places
  pub root : ℕ
  pub window : Option Window
  pub added_flags : ℕ
