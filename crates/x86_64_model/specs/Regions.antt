-- Regions: runs of adjacent mappings with the same rights, as long as possible, in one half of the address space.
use Rattle.std.specs.Prelude.{ℕ, ◌+◌, ◌-◌, ◌==◌, ◌&&◌, nat_le, Bool, not, cond, List, [], ◌∷◌}
use Rattle.std.specs.Bool.{beq}
use Rattle.x86_64_model.specs.Memory.{Words}
use Rattle.x86_64_model.specs.Position.{lower_half}
use Rattle.x86_64_model.specs.Mappings.{Mapping, Rights, mappings_of}

-- A region: the positions from the first to the last, and the rights that all of them have. A position is the number of an
-- address counted without the gap of the address space.
pub record Region : Type 0 where
  pub first : ℕ
  pub last : ℕ
  pub rights : Rights

-- The region of one mapping: all its positions, with its rights.
abbrev pub region_of : Mapping → Region
region_of m = record { first = m.start; last = m.start + m.size - 1; rights = m.rights }

-- Whether two rights are equal: those to write, of user mode and to execute.
abbrev pub same_rights : (r s : Rights) → Bool
same_rights r s = beq r.write s.write && beq r.user s.user && beq r.execute s.execute

-- Whether region s follows on region r: it starts just after r ends, in the same half of the address space, with the same
-- rights.
abbrev pub follows : (L : ℕ) (r s : Region) → Bool
follows L r s = (s.first == r.last + 1) && not (s.first == lower_half L) && same_rights r.rights s.rights

-- Region r, extended to the last position of s.
abbrev pub grown_to : (r s : Region) → Region
grown_to r s = record { first = r.first; last = s.last; rights = r.rights }

-- Region r in front of others, merged with the first of them if that follows on r.
abbrev pub put_before : (L : ℕ) → Region → List Region → List Region
put_before L r [] = r ∷ []
put_before L r (s ∷ rest) = cond (follows L r s) (grown_to r s ∷ rest) (r ∷ s ∷ rest)

-- The regions that mappings form, in their order.
unfoldable pub regions_in : (L : ℕ) → List Mapping → List Region
regions_in L [] = []
regions_in L (m ∷ rest) = put_before L (region_of m) (regions_in L rest)

-- The regions that the mappings below a root form, in the order of the mappings, with L levels.
abbrev pub regions_of : (L : ℕ) → Words → (root : ℕ) → List Region
regions_of L tables root = regions_in L (mappings_of L tables root)

-- Whether a position lies in a region.
abbrev pub is_within : (position : ℕ) → Region → Bool
is_within p r = nat_le r.first p && nat_le p r.last
