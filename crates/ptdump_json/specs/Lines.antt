-- Lines: what reports say of regions, mappings, searches and walks in each form, as lines of text or of JSON.
use Rattle.std.specs.Prelude.{ℕ, ◌++◌, Bool, if◌then◌else◌, List, [], Option}
use Rattle.serde_json.specs.Data.{Data}
use Rattle.linux_areas.specs.declared.layout.Layout.{Layout}
use Rattle.x86_64_model.specs.Mappings.{Mapping, Rights}
use Rattle.x86_64_model.specs.Memory.{Words}
use Rattle.x86_64_model.specs.Position.{raw}
use Rattle.x86_64_model.specs.Regions.{Region}
use Rattle.ptdump_check.specs.FindingTexts.{rights_at_text}
use Rattle.ptdump_json.specs.Accesses.{asked_text}
use Rattle.ptdump_json.specs.Columns.{mapping_in, region_in}
use Rattle.ptdump_json.specs.Explanations.{explanation_text}
use Rattle.ptdump_json.specs.Json.{json_line, json_of_asked, json_of_found, json_of_mapping, json_of_region, json_of_walk}
use Rattle.ptdump_json.specs.ListedAreas.{area_of_mapping, area_of_region, area_text}
use Rattle.ptdump_json.specs.Walks.{line, walk_of, walk_text}
use Rattle.ptdump_json.specs.declared.options.Columns.{Columns}
use Rattle.ptdump_json.specs.declared.options.Form.{Form}
use Rattle.ptdump_json.specs.declared.options.Form.TheVariants.{Text, Json}
use Rattle.ptdump_json.specs.declared.options.WalkOptions.{WalkOptions}

-- A line of a report in a form, with its line feed: this text, or as JSON this value.
abbrev pub line_in : Form → (text : List ℕ) → (value : Data) → List ℕ
line_in Text text value = line text
line_in Json text value = json_line value

-- The line of a region in a form, with the area of Linux's address space in which it lies, if the layout is known and says that.
-- The columns are those of text.
abbrev pub region_line : Form → Columns → Option Layout → (L : ℕ) → Region → List ℕ
region_line form columns layout L r =
    line_in form (region_in columns L r ++ area_text (area_of_region layout L r)) (json_of_region L (area_of_region layout L r) r)

-- The line of a mapping in a form, with the area of Linux's address space in which it lies, if the layout is known and says that. A
-- line of text has these columns, and the names of the flags if they are asked for.
abbrev pub mapping_line : Form → Columns → (has_names : Bool) → Option Layout → (L : ℕ) → Mapping → List ℕ
mapping_line form columns has_names layout L m =
    line_in form (mapping_in columns has_names L m ++ area_text (area_of_mapping layout L m)) (json_of_mapping L (area_of_mapping layout L m) m)

-- The line of a virtual address that leads to a physical address, in a form, with the rights there.
abbrev pub found_line : Form → (physical address : ℕ) → Rights → List ℕ
found_line form a at rights = line_in form (rights_at_text at rights) (json_of_found a at rights)

-- The lines of the walk to position p in a form, and of the access there, if one is asked for. Text also says at which words a
-- processor faults, and explains the walk if that is asked for.
abbrev pub walk_lines : Form → (L : ℕ) → Words → (root : ℕ) → WalkOptions → (p : ℕ) → List ℕ
walk_lines Text L T root asked p = walk_text asked.controls (walk_of L T root p)
    ++ (if asked.explains then explanation_text (walk_of L T root p) else []) ++ asked_text asked.controls asked.source asked.access L T root p
walk_lines Json L T root asked p = json_line (json_of_walk (raw L p) (walk_of L T root p) (json_of_asked asked.controls asked.source asked.access L T root p))
