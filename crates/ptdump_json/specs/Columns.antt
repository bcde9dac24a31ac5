-- Columns: the texts of mappings and regions, as they are, or in columns of fixed widths in which each has room.
use Rattle.std.specs.Prelude.{ℕ, ◌+◌, ◌-◌, ◌++◌, Bool, true, false, List, codes, length}
use Rattle.std.specs.List.{repeat}
use Rattle.text.specs.Numbers.{hexadecimal}
use Rattle.text.specs.Sizes.{size_text}
use Rattle.x86_64_mappings.specs.Texts.{mapping_text, region_text}
use Rattle.x86_64_model.specs.Mappings.{Mapping, Rights}
use Rattle.x86_64_model.specs.Position.{raw}
use Rattle.x86_64_model.specs.Regions.{Region}
use Rattle.x86_64_tables.specs.Rights.{rights_text}
use Rattle.ptdump_json.specs.Names.{named_text, names_text}
use Rattle.ptdump_json.specs.declared.options.Columns.{Columns}
use Rattle.ptdump_json.specs.declared.options.Columns.TheVariants.{Plain, Aligned}

-- The text of this many spaces.
abbrev pub spaces : (count : ℕ) → List ℕ
spaces count = repeat count (codes " ")

-- The text at the left of a column of this width, with spaces behind it. A text that is wider stays as it is.
abbrev pub at_left : (width : ℕ) → (text : List ℕ) → List ℕ
at_left width text = text ++ spaces (width - length text)

-- The text at the right of a column of this width, with spaces in front of it. A text that is wider stays as it is.
abbrev pub at_right : (width : ℕ) → (text : List ℕ) → List ℕ
at_right width text = spaces (width - length text) ++ text

-- The text START SIZE FRAME RIGHTS of a mapping in columns of fixed widths. An address has at most 18 characters, that of a frame
-- 15, the size of a page 4, and rights have 4.
unfoldable pub place_columns : (start size frame : ℕ) → Rights → List ℕ
place_columns start size frame rights =
    at_left 18 (hexadecimal start) ++ codes " " ++ at_right 4 (size_text size) ++ codes " "
    ++ at_left 15 (hexadecimal frame) ++ codes " " ++ rights_text rights

-- The text START SIZE FRAME RIGHTS of a mapping in columns of fixed widths, with its canonical address for L levels of tables.
abbrev pub aligned_place : (L : ℕ) → Mapping → List ℕ
aligned_place L m = place_columns (raw L m.start) m.size m.frame m.rights

-- The text START SIZE FRAME RIGHTS FLAGS of a mapping in columns of fixed widths, with L levels of tables.
abbrev pub aligned_mapping : (L : ℕ) → Mapping → List ℕ
aligned_mapping L m = aligned_place L m ++ codes " " ++ hexadecimal m.flags

-- The text START SIZE FRAME RIGHTS FLAGS NAMES of a mapping in columns of fixed widths, with L levels of tables. NAMES are those of
-- the flags, and FLAGS have at most 18 characters.
abbrev pub aligned_named : (L : ℕ) → Mapping → List ℕ
aligned_named L m =
    aligned_place L m ++ codes " " ++ at_left 18 (hexadecimal m.flags) ++ codes " "
    ++ names_text m.size m.flags

-- The text FIRST - LAST SIZE RIGHTS of a region in columns of fixed widths, with L levels of tables. A region has at most 2^56
-- bytes, and its size at most 17 characters.
unfoldable pub aligned_region : (L : ℕ) → Region → List ℕ
aligned_region L r =
    at_left 18 (hexadecimal (raw L r.first)) ++ codes " - " ++ at_left 18 (hexadecimal (raw L r.last))
    ++ codes " "
    ++ at_right 17 (size_text (r.last + 1 - r.first)) ++ codes " " ++ rights_text r.rights

-- The text of a mapping in these columns, with the names of its flags if they are asked for, and with L levels of tables.
abbrev pub mapping_in : Columns → (has_names : Bool) → (L : ℕ) → Mapping → List ℕ
mapping_in Plain false = mapping_text
mapping_in Plain true = named_text
mapping_in Aligned false = aligned_mapping
mapping_in Aligned true = aligned_named

-- The text of a region in these columns, with L levels of tables.
abbrev pub region_in : Columns → (L : ℕ) → Region → List ℕ
region_in Plain = region_text
region_in Aligned = aligned_region
