-- Laws of ranges.
use Rattle.std.specs.Prelude.{◌≡◌, ◌↔◌, ◌<◌, ◌≤◌, ◌+◌, ◌*◌, ℕ}
use Rattle.x86_64_model.specs.Lists.{In}
use Rattle.x86_64_model.specs.Range.{exclusive_range, inclusive_range}

-- The list of an exclusive range, a number of steps long, has the starts below its end, and nothing else.
abbrev pub ExclusiveHas : Type 0
ExclusiveHas = (size start steps x : ℕ) → 0 < size → In (exclusive_range size start (start + steps * size)) x ↔ ((k : ℕ) × (k < steps) × (start + k * size ≡ x))

-- The list of an inclusive range, a number of steps long, has the starts up to and including its end, and nothing else.
abbrev pub InclusiveHas : Type 0
InclusiveHas = (size start steps x : ℕ) → 0 < size → In (inclusive_range size start (start + steps * size)) x ↔ ((k : ℕ) × (k ≤ steps) × (start + k * size ≡ x))
