-- Successors and predecessors: steps through the numbers below a count, such as the indices of a table, or positions (the numbers
-- of addresses counted without the gap).
use Rattle.std.specs.Prelude.{ℕ, ◌+◌, ◌-◌, nat_lt, if◌then◌else◌, Option, Some, None}

-- The number this many steps above the start, None if it isn't below the count.
abbrev pub forward : (count start steps : ℕ) → Option ℕ
forward count n steps = if nat_lt (n + steps) count then Some (n + steps) else None

-- The number this many steps below the start, None if it is below 0.
abbrev pub backward : (start steps : ℕ) → Option ℕ
backward n steps = if nat_lt n steps then None else Some (n - steps)

-- The number of steps from start to end, as equal lower and upper bounds, or 0 and None if the end is below the start.
abbrev pub steps_between : (start end : ℕ) → ℕ × Option ℕ
steps_between n end = if nat_lt end n then (0, None) else (end - n, Some (end - n))
