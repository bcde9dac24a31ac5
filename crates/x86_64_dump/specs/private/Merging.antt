-- Merging: stretches that are passed one after the other.
use Rattle.std.specs.Prelude.{ℕ, ◌==◌, cond, min, List, [], ◌∷◌, Option, None, Some}
use Rattle.x86_64_dump.specs.declared.search.Place.{Place}
use Rattle.x86_64_dump.specs.declared.search.Stretch.{Stretch}

-- The stretches that are left after the next one is passed, if it begins at this address.
abbrev pub rest_after : (address : ℕ) → List Stretch → List Stretch
rest_after address [] = []
rest_after address (next ∷ rest) = cond (next.from == address) rest (next ∷ rest)

-- The place of the next stretch, if it begins at this address and is passed, or else the place before.
abbrev pub place_passed : (address : ℕ) → (before : Option Place) → List Stretch → Option Place
place_passed address before [] = before
place_passed address before (next ∷ rest) = cond (next.from == address) next.place before

-- The address at which the next stretch begins, or None if no stretch is left.
abbrev pub next_from : List Stretch → Option ℕ
next_from [] = None
next_from (next ∷ rest) = Some next.from

-- The lower of two addresses, each of which may be missing.
abbrev pub lower : (one other : Option ℕ) → Option ℕ
lower None other = other
lower (Some one) None = Some one
lower (Some one) (Some other) = Some (min one other)
