-- Reports: the texts of the program for words in a form, with L levels of tables below a root.
use Rattle.std.specs.Prelude.{ℕ, ◌+◌, ◌-◌, ◌%◌, ◌++◌, Bool, true, false, List, [], codes, filter, length, nat_lt, Option}
use Rattle.std.specs.List.{flat_map, list_all, list_any}
use Rattle.linux_areas.specs.declared.layout.Layout.{Layout}
use Rattle.x86_64_model.specs.Mappings.{Mapping, mappings_of}
use Rattle.x86_64_model.specs.Memory.{Words}
use Rattle.x86_64_model.specs.Position.{position_count, raw}
use Rattle.x86_64_model.specs.Regions.{regions_of}
use Rattle.text.specs.Numbers.{hexadecimal}
use Rattle.x86_64_mappings.specs.Wanted.{leads_to}
use Rattle.ptdump_json.specs.Accesses.{is_access_there}
use Rattle.ptdump_json.specs.Lines.{found_line, mapping_line, region_line, walk_lines}
use Rattle.x86_64_mappings.specs.Selections.{is_mapping_selected, is_selected}
use Rattle.ptdump_json.specs.Walks.{line}
use Rattle.ptdump_json.specs.declared.options.Columns.{Columns}
use Rattle.ptdump_json.specs.declared.options.Form.{Form}
use Rattle.ptdump_json.specs.declared.options.Form.TheVariants.{Text}
use Rattle.x86_64_mappings.specs.declared.selection.Selection.{Selection}
use Rattle.ptdump_json.specs.declared.options.WalkOptions.{WalkOptions}

-- The report of regions: a line in a form for each region below a root that is selected, in order.
unfoldable pub regions_text : Selection → Form → Columns → Option Layout → (L : ℕ) → Words → (root : ℕ)
    → List ℕ
regions_text s form columns layout L T root =
    flat_map (region_line form columns layout L) (filter (is_selected L s) (regions_of L T root))

-- The report of pages: a line in a form for each mapping below a root that is selected, in order.
unfoldable pub pages_text : Selection → (has_names : Bool) → Form → Columns → Option Layout → (L : ℕ) → Words
    → (root : ℕ) → List ℕ
pages_text s has_names form columns layout L T root =
    flat_map (mapping_line form columns has_names layout L)
    (filter (is_mapping_selected L s) (mappings_of L T root))

-- The line above what is said of an address, with the name of its kind, if the form is text and the address is one of several. An
-- object of JSON has the address itself.
abbrev pub heading_line : Form → (several : Bool) → (name : List ℕ) → (address : ℕ) → List ℕ
heading_line Text true name a = line (name ++ codes " " ++ hexadecimal a)
heading_line form several name a = []

-- Whether there is more than one address.
abbrev pub are_several : List ℕ → Bool
are_several addresses = nat_lt 1 (length addresses)

-- The lines of the walk to a virtual address in a form, below a heading if the form is text and the address is one of several.
abbrev pub headed_walk : Form → (several : Bool) → (L : ℕ) → Words → (root : ℕ) → WalkOptions → (address : ℕ)
    → List ℕ
headed_walk form several L T root asked a =
    heading_line form several (codes "address") a ++ walk_lines form L T root asked (a % position_count L)

-- The report of walks: the lines of the walk to each virtual address in a form, in order, each below a heading if the form is text
-- and there are several addresses.
unfoldable pub walks_text : Form → (several : Bool) → (L : ℕ) → Words → (root : ℕ) → WalkOptions
    → (addresses : List ℕ) → List ℕ
walks_text form several L T root asked addresses =
    flat_map (headed_walk form several L T root asked) addresses

-- The line, in a form, of the virtual address in a mapping that leads to a physical address, with L levels of tables.
abbrev pub address_line : Form → (L physical : ℕ) → Mapping → List ℕ
address_line form L a m = found_line form a (raw L (m.start + (a - m.frame))) m.rights

-- A line in a form for each virtual address below a root that leads to a physical address, in order.
unfoldable pub addresses_text : Form → (L : ℕ) → Words → (root physical : ℕ) → List ℕ
addresses_text form L T root a = flat_map (address_line form L a) (filter (leads_to a) (mappings_of L T root))

-- The line that no virtual address leads to a physical address, if that is so, the form is text, and the physical address is one of
-- several.
abbrev pub none_line : Form → (several found : Bool) → List ℕ
none_line Text true false = line (codes "not found")
none_line form several found = []

-- A line in a form for each virtual address that leads to a physical address. If the form is text and the physical address is one
-- of several, they stand below a heading, and a line says if there are none.
abbrev pub headed_addresses : Form → (several : Bool) → (L : ℕ) → Words → (root physical : ℕ) → List ℕ
headed_addresses form several L T root a =
    heading_line form several (codes "physical") a ++ addresses_text form L T root a
    ++ none_line form several (list_any (leads_to a) (mappings_of L T root))

-- The report of a search: for each of some physical addresses, in order, a line in a form for each virtual address that leads to
-- it. If the form is text and there are several, each has a heading.
unfoldable pub find_text : Form → (several : Bool) → (L : ℕ) → Words → (root : ℕ) → (physical : List ℕ)
    → List ℕ
find_text form several L T root physical = flat_map (headed_addresses form several L T root) physical

-- ---- whether the request is fulfilled

-- Whether the accesses at these virtual addresses all arrive, or the page walks to them if no access is asked for.
abbrev pub all_arrive : (L : ℕ) → Words → (root : ℕ) → WalkOptions → (addresses : List ℕ) → Bool
all_arrive L T root asked addresses =
    list_all (λ a. is_access_there asked.controls asked.access L T root (a % position_count L)) addresses

-- Whether each of these physical addresses has a virtual address below the root that leads to it.
abbrev pub all_found : (L : ℕ) → Words → (root : ℕ) → (physical : List ℕ) → Bool
all_found L T root physical = list_all (λ a. list_any (leads_to a) (mappings_of L T root)) physical
