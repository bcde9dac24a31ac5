-- Selections: mappings and regions, by their addresses and their rights.
use Rattle.std.specs.Prelude.{ℕ, ◌%◌, ◌&&◌, ◌||◌, nat_le, not, Bool, true, Option, None, Some}
use Rattle.x86_64_model.specs.Mappings.{Mapping, Rights}
use Rattle.x86_64_model.specs.Position.{position_count}
use Rattle.x86_64_model.specs.Regions.{Region, region_of}
use Rattle.x86_64_mappings.specs.declared.selection.Selection.{Selection}

-- Whether a position, the number of an address counted without the non-canonical gap, isn't below the position of the address
-- `from`. It is true if there is no such address.
abbrev pub is_from : (L : ℕ) → (from : Option ℕ) → (position : ℕ) → Bool
is_from L None p = true
is_from L (Some a) p = nat_le (a % position_count L) p

-- Whether a position, the number of an address counted without the non-canonical gap, isn't above the position of the address `to`.
-- It is true if there is no such address.
abbrev pub is_to : (L : ℕ) → (to : Option ℕ) → (position : ℕ) → Bool
is_to L None p = true
is_to L (Some a) p = nat_le p (a % position_count L)

-- Whether rights include others: each of write, user and execute that the others have.
abbrev pub includes : (rights others : Rights) → Bool
includes r s = (r.write || not s.write) && (r.user || not s.user) && (r.execute || not s.execute)

-- Whether a region is selected: it doesn't end before the selection's first address, it doesn't begin after the last one, and its
-- rights include those of the selection.
abbrev pub is_selected : (L : ℕ) → Selection → Region → Bool
is_selected L s r = is_from L s.from r.last && is_to L s.to r.first && includes r.rights s.rights

-- Whether a mapping is selected: it doesn't end before the selection's first address, it doesn't begin after the last one, and its
-- rights include those of the selection.
abbrev pub is_mapping_selected : (L : ℕ) → Selection → Mapping → Bool
is_mapping_selected L s m = is_selected L s (region_of m)
