-- Texts of ranges.
use Rattle.std.proofs.Common.{◌≡◌, ◌∙◌, ◌<◌, ◌≤◌, ℕ, zero, suc, List, [], ◌∷◌, Option, None, Some, length, get_or, map, sym, arith}
use Rattle.std.proofs.lemmas.List.{length-map}
use Rattle.std.proofs.lemmas.Slice.Zip.{AllZip-long}
use Rattle.std.specs.Option.{option_copied}
use Rattle.std.specs.Borrow.{Bor}
use Rattle.x86_64_dump.specs.declared.placement.Placement.{Placement}
use Rattle.x86_64_dump.specs.declared.placement.Placement.TheVariants.{Unstated, Base, Ranges}
use Rattle.x86_64_dump.specs.declared.placement.RawRange.{RawRange}
use Rattle.ptdump_check.specs.declared.checking.AddressRange.{AddressRange}
use Rattle.ptdump.specs.DirectMaps.{AreEnds}
use Rattle.ptdump.specs.Placements.{AreRangeParts, AreRanges, Denotes, IsPlacement, IsRawRange}

-- each of the texts denotes a range
pub range_at : (texts : List (Bor (List ℕ))) (ranges : List RawRange) (i : ℕ) (d : Bor (List ℕ)) → i < length texts → AreRanges (map (λ text. text.now) texts) ranges → (range : RawRange) × IsRawRange (get_or texts i d).now range
range_at [] ranges i d below are = absurd (omega (arith, below))
range_at (text ∷ texts) [] i d below are = absurd are
range_at (text ∷ texts) (range ∷ ranges) zero d below are = (range, are.0)
range_at (text ∷ texts) (range ∷ ranges) (suc i) d below are = range_at texts ranges i d (omega (arith, below)) are.1

-- a range has three parts
pub three_parts : (parts : List (Bor (List ℕ))) (range : RawRange) → AreRangeParts (map (λ part. part.now) parts) range → length parts ≡ 3
three_parts parts range are =
    let now : Bor (List ℕ) → List ℕ = λ part. part.now in
    sym (length-map parts now) ∙ sym (AllZip-long Denotes (map now parts) (range.offset ∷ range.address ∷ range.size ∷ []) are)

-- a range of addresses has two parts
pub two_parts : (parts : List (Bor (List ℕ))) (range : AddressRange) → AreEnds (map (λ part. part.now) parts) range → length parts ≡ 2
two_parts parts range are =
    let now : Bor (List ℕ) → List ℕ = λ part. part.now in
    sym (length-map parts now) ∙ sym (AllZip-long Denotes (map now parts) (range.first ∷ range.last ∷ []) are)

-- no placement is described if there are texts that denote no ranges
pub no_ranges : (base : Option (Bor (List ℕ))) (texts : List (Bor (List ℕ))) → base ≡ None → 1 ≤ length texts → ((ranges : List RawRange) → AreRanges (map (λ text. text.now) texts) ranges → ⊥)
    → (placement : Placement) → IsPlacement (option_copied base) (map (λ text. text.now) texts) placement → ⊥
no_ranges (Some text) texts missing some none placement is = cc
no_ranges None [] missing some none placement is = absurd (omega (arith, some))
no_ranges None (text ∷ texts) missing some none Unstated is = is
no_ranges None (text ∷ texts) missing some none (Base base) is = is
no_ranges None (text ∷ texts) missing some none (Ranges ranges) is = none ranges.items is
