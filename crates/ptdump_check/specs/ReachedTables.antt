-- Reached tables: page tables to which a mapping for user code leads.
use Rattle.std.specs.Prelude.{ℕ, ◌+◌, ◌-◌, ◌==◌, true, false, List, filter, find, map, Option, Some, None, option_map}
use Rattle.std.specs.List.{dedup, filter_map}
use Rattle.x86_64_mappings.specs.Wanted.{leads_to}
use Rattle.x86_64_model.specs.Mappings.{Mapping, Rights, mappings_of}
use Rattle.x86_64_model.specs.Memory.{Words}
use Rattle.x86_64_model.specs.Position.{raw}
use Rattle.x86_64_mappings.specs.Selections.{includes}
use Rattle.ptdump_check.specs.declared.findings.entry.Table.{Table}
use Rattle.ptdump_check.specs.declared.findings.finding.Finding.{Finding}
use Rattle.ptdump_check.specs.declared.findings.finding.Finding.TheVariants.{WritableForUser, MappedForUser}

-- The rights that a page has at least if user code can access it.
abbrev pub for_user : Rights
for_user = record { write = false; user = true; execute = false }

-- The rights that a page has at least if user code can write to it.
abbrev pub writable_for_user : Rights
writable_for_user = record { write = true; user = true; execute = false }

-- The first of some mappings that has at least these rights and leads to a physical address.
abbrev pub first_to : (rights : Rights) → (physical : ℕ) → List Mapping → Option Mapping
first_to rights a ms = find (leads_to a) (filter (λ m. includes m.rights rights) ms)

-- The virtual address that leads to a physical address, in the first mapping with at least these rights that does, or None if
-- none does.
abbrev pub first_address : (L : ℕ) → Words → (root : ℕ) → (rights : Rights) → (physical : ℕ) → Option ℕ
first_address L T root rights a = option_map (λ m. raw L (m.start + (a - m.frame))) (first_to rights a (mappings_of L T root))

-- The finding of the table in a frame, by the virtual address where user code can write to it, or if there is none by that where
-- user code can access it.
abbrev pub reached_at : (frame : ℕ) → (writable mapped : Option ℕ) → Option Finding
reached_at f (Some at) mapped = Some (WritableForUser f at)
reached_at f None (Some at) = Some (MappedForUser f at)
reached_at f None None = None

-- The finding of the table in a frame to which a mapping for user code leads, or None if none does.
abbrev pub reached_finding : (L : ℕ) → Words → (root frame : ℕ) → Option Finding
reached_finding L T root f = reached_at f (first_address L T root writable_for_user f) (first_address L T root for_user f)

-- The frames of tables, each once, if the tables are in the order of their frames.
abbrev pub frames_in_order : List Table → List ℕ
frames_in_order tables = dedup (λ f g. f == g) (map (λ t. t.frame) tables)

-- The findings of those tables to which a mapping for user code leads.
unfoldable pub all_reached : (L : ℕ) → Words → (root : ℕ) → List Table → List Finding
all_reached L T root tables = filter_map (reached_finding L T root) (frames_in_order tables)
