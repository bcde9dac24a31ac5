-- Lists in ascending order of a number that each element has. Elements with equal numbers keep their order.
use Rattle.std.specs.Prelude.{ℕ, cond, nat_le, List, [], ◌∷◌}

-- The list, with an element in front of the first one whose number isn't smaller.
abbrev pub inserted : {X : Type 0} → (number : X → ℕ) → X → List X → List X
inserted number x [] = x ∷ []
inserted number x (y ∷ ys) = cond (nat_le (number x) (number y)) (x ∷ y ∷ ys) (y ∷ inserted number x ys)

-- The elements in ascending order of their numbers. Elements with equal numbers keep their order.
abbrev pub in_order : {X : Type 0} → (number : X → ℕ) → List X → List X
in_order number [] = []
in_order number (x ∷ xs) = inserted number x (in_order number xs)
