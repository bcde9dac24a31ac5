-- Aliases: mappings of the same memory with other rights. Frames are aligned to their size (4KiB, 2MiB or 1GiB), so of two frames
-- that share memory one contains the other.
use Rattle.std.specs.Prelude.{ℕ, ◌+◌, ◌-◌, ◌&&◌, ◌||◌, Bool, not, nat_le, nat_lt, List, find, Option}
use Rattle.x86_64_model.specs.Mappings.{Mapping}
use Rattle.x86_64_model.specs.Position.{raw}
use Rattle.x86_64_model.specs.Regions.{same_rights}
use Rattle.ptdump_check.specs.declared.findings.aliased.Aliased.{Aliased}

-- Whether the frame of the mapping `outer` contains all bytes of the frame of the mapping `inner`.
abbrev pub contains : (outer inner : Mapping) → Bool
contains n m = nat_le n.frame m.frame && nat_le (m.frame + m.size) (n.frame + n.size)

-- Whether the mapping n is an alias of m: its frame contains that of m, its rights differ, and it is larger, or starts at a lower
-- address.
abbrev pub is_alias : (m n : Mapping) → Bool
is_alias m n = contains n m && not (same_rights m.rights n.rights) && (nat_lt m.size n.size || nat_lt n.start m.start)

-- The first of some mappings that is an alias of m, or None if none is. An alias has a frame that contains that of m and other
-- rights, and is larger, or starts at a lower address.
abbrev pub alias_in : List Mapping → Mapping → Option Mapping
alias_in ms m = find (is_alias m) ms

-- The frame of the mapping m with two virtual addresses that lead to it, and the rights at each: the one at which m starts, and the
-- one in its alias n, canonical for L levels of tables.
abbrev pub aliased : (L : ℕ) → (m n : Mapping) → Aliased
aliased L m n = record {
  frame = m.frame;
  at = record { address = raw L m.start; rights = m.rights };
  other = record { address = raw L (n.start + (m.frame - n.frame)); rights = n.rights };
}
