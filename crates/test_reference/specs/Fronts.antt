-- Front parts of a path by their lengths.
use Rattle.std.specs.Prelude.{ℕ, List, map, take, find, Bool, cond, not, ◌&&◌, ◌||◌}
use Rattle.x86_64_model.specs.Entry.{used, present, huge}
use Rattle.x86_64_model.specs.Allowed.{none_absent}
use Rattle.x86_64_model.specs.PathMap.{PathMap, entry}

-- The front parts of a path that have these lengths, in the order of the lengths.
abbrev pub fronts : List ℕ → (lengths : List ℕ) → List (List ℕ)
fronts q lengths = map (λ n. take n q) lengths

-- Whether the entry at a path is used if `wanted` is true, or unused if it is false.
abbrev pub is_wanted_front : PathMap → (wanted : Bool) → List ℕ → Bool
is_wanted_front paths wanted p = cond wanted (used (entry paths p)) (not (used (entry paths p)))

-- Whether the entry at a path is used and has HUGE_PAGE.
abbrev pub has_huge_page : PathMap → List ℕ → Bool
has_huge_page paths p = used (entry paths p) && huge (entry paths p)

-- Whether the first of some paths whose entry isn't present or has HUGE_PAGE has a present entry. It is true if there is no such
-- path.
abbrev pub first_present : PathMap → List (List ℕ) → Bool
first_present paths ps = none_absent paths (find (λ p. not (present (entry paths p)) || huge (entry paths p)) ps)
