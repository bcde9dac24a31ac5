-- Elements with one number at the front of a list.
use Rattle.std.specs.Prelude.{ℕ, suc, ◌==◌, cond, List, [], ◌∷◌}

-- The number of elements at the front of a list whose number is k, before the first element with another number.
abbrev pub alike : {X : Type 0} → (number : X → ℕ) → (k : ℕ) → List X → ℕ
alike number k [] = 0
alike number k (x ∷ xs) = cond (number x == k) (suc (alike number k xs)) 0
