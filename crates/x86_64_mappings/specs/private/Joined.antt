-- Joining regions as they are found. A region that may still grow is held back until a region arrives that doesn't follow it.
use Rattle.std.specs.Prelude.{◌≡◌, ℕ, ◌+◌, ◌-◌, ◌≤◌, cond, List, [], ◌∷◌, ◌++◌, Option, Some, None}
use Rattle.std.specs.List.{AllByRecursion}
use Rattle.x86_64_model.specs.Position.{position_count}
use Rattle.x86_64_model.specs.Mappings.{Mapping, Rights}
use Rattle.x86_64_model.specs.Regions.{Region, region_of, follows, grown_to}

-- The region with these rights from a position up to another, which is excluded.
abbrev pub region_between : (from to : ℕ) → Rights → Region
region_between a b rights = record { first = a; last = b - 1; rights = rights }

-- The region that is held back after the region s arrives: s itself, merged with the one that was held back if s follows on that.
abbrev pub held_with : (L : ℕ) → (held : Option Region) → Region → Region
held_with L None s = s
held_with L (Some r) s = cond (follows L r s) (grown_to r s) s

-- The regions that are handed out when the region s arrives: the one that was held back, if there is one and s doesn't follow on
-- it.
abbrev pub given_with : (L : ℕ) → (held : Option Region) → Region → List Region
given_with L None s = []
given_with L (Some r) s = cond (follows L r s) [] (r ∷ [])

-- The region that is held back, since it may still grow, after the regions of mappings arrive in order. Before them, `held` was
-- held back.
unfoldable pub held_after : (L : ℕ) → (held : Option Region) → List Mapping → Option Region
held_after L held [] = held
held_after L held (m ∷ ms) = held_after L (Some (held_with L held (region_of m))) ms

-- The regions that are handed out while the regions of mappings arrive in order, since they can't grow any more. Before them,
-- `held` was held back.
unfoldable pub given_after : (L : ℕ) → (held : Option Region) → List Mapping → List Region
given_after L held [] = []
given_after L held (m ∷ ms) = given_with L held (region_of m) ++ given_after L (Some (held_with L held (region_of m))) ms

-- The list of the region that is held back, or the empty list if there is none.
abbrev pub listed : (held : Option Region) → List Region
listed None = []
listed (Some r) = r ∷ []

-- The regions still to be handed out, from the one that is held back on, if the regions of these mappings arrive in order and then
-- no other.
abbrev pub regions_from : (L : ℕ) → (held : Option Region) → List Mapping → List Region
regions_from L held ms = given_after L held ms ++ listed (held_after L held ms)

-- All mappings end within the address space of L levels of page tables.
abbrev pub AllFit : (L : ℕ) → List Mapping → Type 0
AllFit L = AllByRecursion (λ m. m.start + m.size ≤ position_count L)

-- A region arrives: a visitor takes the regions that are handed out, and the joiner holds the region that is held back.
pub record JoinsRegion {V : Type 0} (visits : V → V → List Region → Type 0) (L : ℕ) (s : Region) (before : Option Region) (visitor : V) (after : Option Region) (visited : V) : Type 0 where
  pub given : visits visitor visited (given_with L before s)
  pub held : after ≡ Some (held_with L before s)

-- The regions of mappings arrive: a visitor takes what is handed out, and the joiner holds what is held back.
pub record Joins {V : Type 0} (visits : V → V → List Region → Type 0) (L : ℕ) (ms : List Mapping) (before : Option Region) (visitor : V) (after : Option Region) (visited : V) : Type 0 where
  pub given : visits visitor visited (given_after L before ms)
  pub held : after ≡ held_after L before ms
