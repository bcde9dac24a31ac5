-- The laws of steps through the pages of a size.
use Rattle.std.specs.Prelude.{◌≡◌, ℕ, ◌+◌, ◌*◌, ◌<◌, Some}
use Rattle.x86_64_addr.specs.Position.{position_count}
use Rattle.x86_64_model.specs.Successor.{forward, backward}
use Rattle.x86_64_page.specs.Steps.{pages_between}

-- Steps by m pages of a size and then by n pages are steps by m + n pages, forward below a limit and backward. Steps back undo
-- steps forward and the other way round, and `pages_between` counts the steps forward.
pub record AreStepsBelow (limit size : ℕ) : Type 0 where
  pub compose : (start m n middle end : ℕ) → forward limit start (m * size) ≡ Some middle → forward limit middle (n * size) ≡ Some end
      → forward limit start ((m + n) * size) ≡ Some end
  pub compose_back : (start m n middle end : ℕ) → backward start (m * size) ≡ Some middle → backward middle (n * size) ≡ Some end
      → backward start ((m + n) * size) ≡ Some end
  pub undone : (start n end : ℕ) → forward limit start (n * size) ≡ Some end → backward end (n * size) ≡ Some start
  pub redone : (start n end : ℕ) → start < limit → backward start (n * size) ≡ Some end → forward limit end (n * size) ≡ Some start
  pub counted : (start n end : ℕ) → forward limit start (n * size) ≡ Some end → pages_between size start end ≡ (n, Some n)

-- Steps through the positions of pages of a size in bytes, with L levels of page tables, add up, are undone by steps the other
-- way, and are counted by `pages_between`.
abbrev pub ArePageSteps : (L size : ℕ) → Type 0
ArePageSteps L size = AreStepsBelow (position_count L) size
