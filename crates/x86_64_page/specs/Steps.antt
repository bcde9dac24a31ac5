-- Steps through the pages of a size.
use Rattle.std.specs.Prelude.{ℕ, ◌-◌, ◌/◌, nat_lt, if◌then◌else◌, Option, Some, None}

-- The number of pages of a size from the page at `start` up to but excluding the one at `end`, as equal lower and upper bounds. 0
-- and None if the end is below the start.
abbrev pub pages_between : (size start end : ℕ) → ℕ × Option ℕ
pages_between size start end = if nat_lt end start then (0, None) else ((end - start) / size, Some ((end - start) / size))
