-- Counts of lines.
use Rattle.std.proofs.Common.{◌≡◌, ◌-◌, ◌^◌, ◌==◌, ℕ, Bool, true, false, min, eq-eqb, ne_eqb, eqb-true, false-eqb, refl, sym, arith}

-- there is no line if none is counted
pub none_counted : (n : ℕ) → (min n (2 ^ 64 - 1) == 0) ≡ (n == 0)
none_counted n = by (n == 0) refl
  where
    by : (b : Bool) → (n == 0) ≡ b → (min n (2 ^ 64 - 1) == 0) ≡ b
    by true is = let none = eqb-true n 0 is in eq-eqb (min n (2 ^ 64 - 1)) 0 (omega (arith, none))
    by false is = let some = false-eqb n 0 (sym is) in ne_eqb (min n (2 ^ 64 - 1)) 0 (λ e. some (omega (arith, e)))
