-- Listed areas: in which of Linux's areas mappings and regions lie, and how lines name them.
use Rattle.std.specs.Prelude.{ℕ, ◌+◌, ◌-◌, ◌%◌, ◌++◌, codes, List, [], Option, None, Some}
use Rattle.std.specs.Option.{option_and_then}
use Rattle.serde_json.specs.Data.{Members, member, string}
use Rattle.linux_areas.specs.Areas.{area_at, area_name}
use Rattle.linux_areas.specs.declared.area.Area.{Area}
use Rattle.linux_areas.specs.declared.layout.Layout.{Layout}
use Rattle.x86_64_model.specs.Mappings.{Mapping}
use Rattle.x86_64_model.specs.Position.{position_count, raw}
use Rattle.x86_64_model.specs.Regions.{Region}

-- The area of Linux's address space in which a region lies, with L levels of tables, or None if that isn't known.
abbrev pub area_of_region : Option Layout → (L : ℕ) → Region → Option Area
area_of_region layout L r = option_and_then (λ l. area_at l (raw L r.first) (raw L r.last)) layout

-- The last position of a mapping, taken modulo the size of the address space of L levels of tables.
abbrev pub last_position_of : (L : ℕ) → Mapping → ℕ
last_position_of L m = (m.start + (m.size - 1)) % position_count L

-- The area of Linux's address space in which a mapping lies, with L levels of tables, or None if that isn't known.
abbrev pub area_of_mapping : Option Layout → (L : ℕ) → Mapping → Option Area
area_of_mapping layout L m = option_and_then (λ l. area_at l (raw L m.start) (raw L (last_position_of L m))) layout

-- The last column of a line, behind two spaces: the name of an area if it is known, or else nothing.
abbrev pub area_text : Option Area → List ℕ
area_text None = []
area_text (Some area) = codes "  " ++ area_name area

-- The members of a JSON object, with the name of an area as the member `area` in front of them if the area is known.
abbrev pub with_area : Option Area → Members → Members
with_area None members = members
with_area (Some area) members = member (codes "area") (string (area_name area)) members
