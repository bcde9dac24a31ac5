-- How much of its span a table maps.
use Rattle.std.specs.Prelude.{◌≡◌, ℕ, ◌+◌, ◌<◌, List, [], ◌∷◌}
use Rattle.x86_64_model.specs.Mappings.{Mapping, Rights}
use Rattle.x86_64_model.specs.Position.{position_count}
use Rattle.x86_64_mappings.specs.declared.summaries.regions.extent.Extent.{Extent}
use Rattle.x86_64_mappings.specs.declared.summaries.regions.extent.Extent.TheVariants.{Nothing, Whole, Mixture}

-- The mappings lie one behind the other, without a gap, from a position up to another, which is excluded, and all have the given
-- rights.
abbrev pub AreWhole : (from to : ℕ) → Rights → List Mapping → Type 0
AreWhole a b rights [] = a ≡ b
AreWhole a b rights (m ∷ ms) = (m.start ≡ a) × (0 < m.size) × (m.rights ≡ rights) × AreWhole (m.start + m.size) b rights ms

-- The extent is true of the mappings of a table of a level whose span starts at the position `start`: there are none, or they map
-- the whole span with these rights. A mixture says nothing.
abbrev pub IsExtent : (level start : ℕ) → List Mapping → Extent → Type 0
IsExtent level start ms Nothing = ms ≡ []
IsExtent level start ms (Whole rights) = AreWhole start (start + position_count level) rights ms
IsExtent level start ms Mixture = Unit {0}
