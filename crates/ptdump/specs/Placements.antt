-- Placements: where the bytes of a raw file lie in physical memory, as --base and --range say it.
use Rattle.std.specs.Prelude.{◌≡◌, ℕ, ◌==◌, List, [], ◌∷◌, Option, None, Some}
use Rattle.std.specs.List.{AllZip, slice_split}
use Rattle.x86_64_dump.specs.declared.placement.Placement.{Placement}
use Rattle.x86_64_dump.specs.declared.placement.Placement.TheVariants.{Unstated, Base, Ranges}
use Rattle.x86_64_dump.specs.declared.placement.RawRange.{RawRange}
use Rattle.ptdump.specs.Numbers.{IsNumeral, number_of}

-- The text is a number, and this is its value.
abbrev pub Denotes : (text : List ℕ) → (number : ℕ) → Type 0
Denotes text number = IsNumeral text × (number ≡ number_of text)

-- The parts of a text are three numbers: the offset, the address and the size of the range.
abbrev pub AreRangeParts : (parts : List (List ℕ)) → RawRange → Type 0
AreRangeParts parts range = AllZip Denotes parts (range.offset ∷ range.address ∷ range.size ∷ [])

-- The text is OFFSET:ADDRESS:SIZE, with the numbers of the range.
abbrev pub IsRawRange : (text : List ℕ) → RawRange → Type 0
IsRawRange text range = AreRangeParts (slice_split (λ c. c == 0x3a) text) range

-- The texts are those of the ranges, in order.
abbrev pub AreRanges : (texts : List (List ℕ)) → List RawRange → Type 0
AreRanges texts ranges = AllZip IsRawRange texts ranges

-- The placement is that of --base and --range, whose texts these are. With a base there are no ranges, and without either the
-- placement is unstated.
abbrev pub IsPlacement : (base : Option (List ℕ)) → (ranges : List (List ℕ)) → Placement → Type 0
IsPlacement None [] placement = placement ≡ Unstated
IsPlacement (Some text) [] placement = IsNumeral text × (placement ≡ Base (number_of text))
IsPlacement None texts (Ranges ranges) = AreRanges texts ranges.items
IsPlacement base texts placement = ⊥
