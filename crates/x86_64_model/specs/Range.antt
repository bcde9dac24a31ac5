-- Ranges of pages, by their positions, and of frames, by their addresses, in steps of their size.
-- A position is the number of an address counted without the gap, so a page range continues after the gap of the address space.
use Rattle.std.specs.Prelude.{ℕ, ◌+◌, ◌-◌, ◌*◌, ◌/◌, nat_lt, cond, List, [], map}
use Rattle.std.specs.List.{range_with_len}

-- This many starts of pages or frames of one size, one after another, from the first one up.
abbrev pub starts_from : (size first count : ℕ) → List ℕ
starts_from size first count = map (λ k. first + k * size) (range_with_len 0 count)

-- The starts of an exclusive range: those from which a whole step still ends at or below the end. If the end is a number of
-- steps above the start, these are the starts up to but excluding it.
abbrev pub exclusive_range : (size start end : ℕ) → List ℕ
exclusive_range size start end = starts_from size start ((end - start) / size)

-- The starts of an inclusive range: those up to and including the end, none if the start is above it.
abbrev pub inclusive_range : (size start end : ℕ) → List ℕ
inclusive_range size start end = cond (nat_lt end start) [] (starts_from size start ((end - start) / size + 1))
