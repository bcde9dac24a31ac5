-- Alignment: the multiples of an alignment next to a number.
use Rattle.std.specs.Prelude.{◌≡◌, ℕ, ◌%◌, ◌≤◌}

-- The result is the greatest multiple of the alignment that isn't above the number.
pub record IsGreatestMultiple (align number result : ℕ) : Type 0 where
  pub multiple : result % align ≡ 0
  pub not_above : result ≤ number
  pub greatest : (other : ℕ) → other % align ≡ 0 → other ≤ number → other ≤ result

-- The result is the least multiple of the alignment that isn't below the number.
pub record IsLeastMultiple (align number result : ℕ) : Type 0 where
  pub multiple : result % align ≡ 0
  pub not_below : number ≤ result
  pub least : (other : ℕ) → other % align ≡ 0 → number ≤ other → result ≤ other
