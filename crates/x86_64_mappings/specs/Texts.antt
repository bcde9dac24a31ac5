-- Mappings and regions as text.
use Rattle.std.specs.Prelude.{ℕ, ◌+◌, ◌-◌, ◌++◌, List, codes}
use Rattle.text.specs.Numbers.{hexadecimal}
use Rattle.text.specs.Sizes.{size_text}
use Rattle.x86_64_model.specs.Mappings.{Mapping, Rights}
use Rattle.x86_64_tables.specs.Rights.{rights_text}
use Rattle.x86_64_model.specs.Regions.{Region}
use Rattle.x86_64_model.specs.Position.{raw}

-- The text `START SIZE FRAME` of where a mapping lies: the addresses where it and its frame start, in hexadecimal, and its size in
-- KiB, MiB, GiB or TiB.
unfoldable pub place_text : (start size frame : ℕ) → List ℕ
place_text start size frame = hexadecimal start ++ codes " " ++ size_text size ++ codes " " ++ hexadecimal frame

-- The text `START SIZE FRAME RIGHTS FLAGS` of a mapping: the addresses where it and its frame start and its flags in hexadecimal,
-- its size in KiB, MiB, GiB or TiB, and its rights by four letters.
abbrev pub line_text : (start size frame : ℕ) → Rights → (flags : ℕ) → List ℕ
line_text start size frame rights given =
    place_text start size frame ++ codes " " ++ rights_text rights ++ codes " " ++ hexadecimal given

-- The text `START SIZE FRAME RIGHTS FLAGS` of a mapping, with the canonical address at which it starts below a root with L levels
-- of page tables.
abbrev pub mapping_text : (L : ℕ) → Mapping → List ℕ
mapping_text L m = line_text (raw L m.start) m.size m.frame m.rights m.flags

-- The text `FIRST-LAST SIZE RIGHTS` of a region: its first and its last address, canonical for L levels of page tables, in
-- hexadecimal, its size in KiB, MiB, GiB or TiB, and its rights by four letters.
abbrev pub region_text : (L : ℕ) → Region → List ℕ
region_text L r =
    hexadecimal (raw L r.first) ++ codes "-" ++ hexadecimal (raw L r.last) ++ codes " " ++ size_text (r.last + 1 - r.first)
    ++ codes " " ++ rights_text r.rights
