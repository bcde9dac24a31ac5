-- Laws of successors and predecessors.
use Rattle.std.specs.Prelude.{◌≡◌, ℕ, ◌+◌, ◌<◌, Some}
use Rattle.x86_64_model.specs.Successor.{forward, backward, steps_between}

-- Through the numbers below a count, steps by m and then by n are steps by m + n, forward and back. Steps back undo steps
-- forward, and the other way round. `steps_between` counts them.
pub record AreSteps (count : ℕ) : Type 0 where
  pub compose : (start m n middle end : ℕ) → forward count start m ≡ Some middle → forward count middle n ≡ Some end → forward count start (m + n) ≡ Some end
  pub compose_back : (start m n middle end : ℕ) → backward start m ≡ Some middle → backward middle n ≡ Some end → backward start (m + n) ≡ Some end
  pub undone : (start n end : ℕ) → forward count start n ≡ Some end → backward end n ≡ Some start
  pub redone : (start n end : ℕ) → start < count → backward start n ≡ Some end → forward count end n ≡ Some start
  pub counted : (start n end : ℕ) → forward count start n ≡ Some end → steps_between start end ≡ (n, Some n)

-- Whatever the count, steps through the numbers below it compose, steps back undo steps forward and the other way round, and
-- `steps_between` counts them.
abbrev pub StepsAreCounted : Type 0
StepsAreCounted = (count : ℕ) → AreSteps count
