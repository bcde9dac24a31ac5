-- Lists that ascend by a number of each element.
use Rattle.std.specs.Prelude.{◌≤◌, ℕ, List, [], ◌∷◌}
use Rattle.std.specs.List.{AllByRecursion}

-- The elements of a list ascend by their numbers: none has a smaller number than one before it.
abbrev pub Ascend : {X : Type 0} → (number : X → ℕ) → List X → Type 0
Ascend number [] = Unit {0}
Ascend number (x ∷ xs) = AllByRecursion (λ y. number x ≤ number y) xs × Ascend number xs
