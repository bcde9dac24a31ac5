-- Listed: what lists say of mappings and regions.
use Rattle.std.specs.Prelude.{ℕ, ◌++◌, Bool, Option}
use Rattle.linux_areas.specs.declared.layout.Layout.{Layout}
use Rattle.x86_64_model.specs.Mappings.{Mapping}
use Rattle.x86_64_model.specs.Regions.{Region}
use Rattle.ptdump_json.specs.Columns.{mapping_in, region_in}
use Rattle.ptdump_json.specs.Json.{json_of_mapping, json_of_region}
use Rattle.ptdump_json.specs.ListedAreas.{area_of_mapping, area_of_region, area_text}
use Rattle.ptdump_engine.specs.Said.{Said}
use Rattle.ptdump_json.specs.declared.options.Columns.{Columns}

-- The text and the JSON object of a region in a list, with the area in which it lies, if that is known.
abbrev pub said_of_region : Columns → Option Layout → (L : ℕ) → Region → Said
said_of_region columns layout L r = record {
  text = region_in columns L r ++ area_text (area_of_region layout L r);
  object = json_of_region L (area_of_region layout L r) r;
}

-- The text and the JSON object of a mapping in a list, with the area in which it lies, if that is known. The text has the names of
-- the flags too if they are asked for.
abbrev pub said_of_page : Columns → (has_names : Bool) → Option Layout → (L : ℕ) → Mapping → Said
said_of_page columns has_names layout L m = record {
  text = mapping_in columns has_names L m ++ area_text (area_of_mapping layout L m);
  object = json_of_mapping L (area_of_mapping layout L m) m;
}
