-- Writable tables: page tables to which code can write through a mapping that doesn't lie in the direct map.
use Rattle.std.specs.Prelude.{ℕ, ◌+◌, ◌-◌, true, false, not, List, [], filter, find, Option, Some, None, option_map}
use Rattle.std.specs.List.{filter_map}
use Rattle.x86_64_mappings.specs.Wanted.{leads_to}
use Rattle.x86_64_model.specs.Mappings.{Mapping, Rights, mappings_of}
use Rattle.x86_64_model.specs.Memory.{Words}
use Rattle.x86_64_model.specs.Position.{raw}
use Rattle.ptdump_check.specs.ReachedTables.{frames_in_order}
use Rattle.x86_64_mappings.specs.Selections.{includes}
use Rattle.ptdump_check.specs.Selections.{lies_in}
use Rattle.ptdump_check.specs.declared.findings.entry.Table.{Table}
use Rattle.ptdump_check.specs.declared.findings.finding.Finding.{Finding}
use Rattle.ptdump_check.specs.declared.findings.finding.Finding.TheVariants.{WritableOutside}
use Rattle.ptdump_check.specs.declared.checking.AddressRange.{AddressRange}

-- The rights that a page has at least if code can write to it.
abbrev pub writable_rights : Rights
writable_rights = record { write = true; user = false; execute = false }

-- Those of some mappings that are writable and don't lie wholly in a range of addresses.
abbrev pub writable_outside : (L : ℕ) → AddressRange → List Mapping → List Mapping
writable_outside L range ms = filter (λ m. not (lies_in L range m)) (filter (λ m. includes m.rights writable_rights) ms)

-- The virtual address that leads to a physical address, in the first writable mapping outside the direct map that does, or None
-- if none does.
abbrev pub writable_address : (L : ℕ) → Words → (root : ℕ) → (direct_map : AddressRange) → (physical : ℕ) → Option ℕ
writable_address L T root direct_map a =
    option_map (λ m. raw L (m.start + (a - m.frame))) (find (leads_to a) (writable_outside L direct_map (mappings_of L T root)))

-- The finding of the table in a frame, by the virtual address where it is writable outside the direct map, if there is one.
abbrev pub writable_at : (frame : ℕ) → (address : Option ℕ) → Option Finding
writable_at f None = None
writable_at f (Some at) = Some (WritableOutside f at)

-- The findings of those tables that are writable outside the direct map, or none if it isn't known where that is.
unfoldable pub all_writable : (L : ℕ) → Words → (root : ℕ) → (direct_map : Option AddressRange) → List Table → List Finding
all_writable L T root None tables = []
all_writable L T root (Some range) tables = filter_map (λ f. writable_at f (writable_address L T root range f)) (frames_in_order tables)
