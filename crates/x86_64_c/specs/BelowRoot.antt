-- What a clean up below the root's entries does, with a pool of the caller's: the tables that the root names stay.
use Rattle.std.specs.Prelude.{◌≡◌, ◌≤◌, ℕ, ◌+◌, List, length, Some, None}
use Rattle.x86_64_mappers.specs.CleanUpsBelowRoot.{CleansUpBelowRoot}
use Rattle.x86_64_model.specs.Hierarchy.{Hierarchy}
use Rattle.x86_64_model.specs.Store.{KeepsPool, Store}
use Rattle.x86_64_c.specs.Arguments.{hierarchy_in, position_of}
use Rattle.x86_64_c.specs.PoolCalls.{Loan, pool_in, to_clean_up, wrong_pool_call}
use Rattle.x86_64_c.specs.Status.{ok}
use Rattle.x86_64_c.specs.declared.arguments.Hierarchy.{Hierarchy as Given}

-- A hierarchy was cleaned up below its root's entries, at the positions from low to high. The hierarchy is valid again, and the rest of
-- the pool fits it. Free frames and table frames together are the same set as before.
pub record CleansBelowRoot (h : Hierarchy (Unit {0})) (pool : Store) (low high : ℕ) (after : Hierarchy (Unit {0})) (rest : Store) (status : ℕ) : Type 0 where
  pub status_is : status ≡ ok
  pub cleans : CleansUpBelowRoot h pool low high after rest
  pub keeps : KeepsPool h.layout pool.serves h.memory pool.frames after.memory rest.frames

-- What a caller lent was cleaned up below the root's entries, on the way to the 4KiB pages from the first to the last, with this status,
-- and this is left of it.
pub record ExecutesBelowRoot (own : List ℕ) (h : Given) (lent : Loan) (first last status : ℕ) (after : Loan) : Type 0 where
  -- If an argument is wrong, the status says what, and nothing changes.
  pub bad : (why : ℕ) → wrong_pool_call h lent (to_clean_up first last) ≡ Some why → (status ≡ why) × (after ≡ lent)
  -- Otherwise it is cleaned up.
  pub cleans : wrong_pool_call h lent (to_clean_up first last) ≡ None → CleansBelowRoot (hierarchy_in h lent.tables) (pool_in own lent.array lent.free)
      (position_of h.levels first) (position_of h.levels last + 0xfff) (hierarchy_in h after.tables) (pool_in own after.array after.free) status
  -- The array is as long as before, and the free frames are in it if they were before.
  pub room : length after.array ≡ length lent.array
  pub in_array : lent.free ≤ length lent.array → after.free ≤ length after.array
