-- Direct maps: where the kernel's direct map lies, as --direct-map says it.
use Rattle.std.specs.Prelude.{◌≡◌, ℕ, ◌==◌, List, [], ◌∷◌, Option, None, Some}
use Rattle.std.specs.List.{AllZip, slice_split}
use Rattle.ptdump_check.specs.declared.checking.AddressRange.{AddressRange}
use Rattle.ptdump.specs.Placements.{Denotes}

-- The parts of a text are two numbers: the first and the last address of the range.
abbrev pub AreEnds : (parts : List (List ℕ)) → AddressRange → Type 0
AreEnds parts range = AllZip Denotes parts (range.first ∷ range.last ∷ [])

-- The text is FIRST:LAST, with the two addresses of the range.
abbrev pub IsAddressRange : (text : List ℕ) → AddressRange → Type 0
IsAddressRange text range = AreEnds (slice_split (λ c. c == 0x3a) text) range

-- The direct map is the range of the text of --direct-map, or None if the text is missing.
abbrev pub IsDirectMap : (text : Option (List ℕ)) → Option AddressRange → Type 0
IsDirectMap None direct_map = direct_map ≡ None
IsDirectMap (Some text) None = ⊥
IsDirectMap (Some text) (Some range) = IsAddressRange text range
