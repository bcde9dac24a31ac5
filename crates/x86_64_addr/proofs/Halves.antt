-- Raw values by the half of the address space that they lie in.
use Rattle.std.proofs.Common.{ℕ, ◌+◌, ◌-◌, ◌^◌, Bool, true, false, nat_lt, if◌then◌else◌}
use Rattle.x86_64_model.specs.Position.{raw, lower_half, position_count}

-- what stands between the two halves, where a position leaves it out
abbrev pub gap : (L : ℕ) → ℕ
gap L = 2 ^ 64 - position_count L

-- what holds in both halves holds of a raw value
pub by_half : (L : ℕ) (P : ℕ → Type 0) (p : ℕ) → P p → P (p + gap L) → P (raw L p)
by_half L P p low high = of (nat_lt p (lower_half L))
  where
    of : (b : Bool) → P (if b then p else p + gap L)
    of true = low
    of false = high
