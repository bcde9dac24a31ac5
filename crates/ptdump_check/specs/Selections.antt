-- Which mappings lie in a range of addresses.
use Rattle.std.specs.Prelude.{ℕ, ◌&&◌, Bool, Some}
use Rattle.x86_64_model.specs.Mappings.{Mapping}
use Rattle.x86_64_model.specs.Regions.{region_of}
use Rattle.x86_64_mappings.specs.Selections.{is_from, is_to}
use Rattle.ptdump_check.specs.declared.checking.AddressRange.{AddressRange}

-- Whether all positions of a mapping lie in a range of addresses, both ends included, with L levels of tables.
abbrev pub lies_in : (L : ℕ) → AddressRange → Mapping → Bool
lies_in L range m = is_from L (Some range.first) (region_of m).first && is_to L (Some range.last) (region_of m).last
