-- Padded: what `write!` writes of numbers with a width.
use Rattle.std.proofs.Common.{◌≡◌, ◌∙◌, ◌+◌, ◌-◌, ◌^◌, ◌++◌, ◌&&◌, ℕ, zero, suc, cond, true, List, [], Option, Some, codes, decimal, false, length, length-append, ap, ap₂, append-nil, append_assoc, arith}
use Rattle.std.proofs.lemmas.Bool.{ne_eqb}
use Rattle.std.specs.Fmt.{◌++?◌, char_count, format_spec, padded_integral, styled_decimal}
use Rattle.std.specs.Option.{option_map}
use Rattle.ptdump_json.specs.Columns.{at_left, at_right, spaces}

padded_left : (width : ℕ) (ds : List ℕ) → padded_integral (format_spec 32 1 0 width (2 ^ 64 - 1)) false [] ds ≡ at_left width ds
unfolding padded_integral char_count lib.Utf8.encode
padded_left width ds = let same : width - length ds - 0 - 0 - 0 ≡ width - length ds = omega arith in ap (λ n. ds ++ spaces n) same

padded_right : (width : ℕ) (ds : List ℕ) → padded_integral (format_spec 32 3 0 width (2 ^ 64 - 1)) false [] ds ≡ at_right width ds
unfolding padded_integral char_count lib.Utf8.encode
padded_right width ds =
    let same : width - length ds - 0 - 0 ≡ width - length ds = omega arith in
    let none : width - length ds - 0 - 0 - (width - length ds - 0 - 0) ≡ 0 = omega arith in
    let front : spaces (width - length ds) ++ [] ++ [] ++ [] ≡ spaces (width - length ds) =
    append-nil (spaces (width - length ds) ++ [] ++ []) ∙ append-nil (spaces (width - length ds) ++ []) ∙ append-nil (spaces (width - length ds)) in
    ap₂ (λ m n. (spaces m ++ [] ++ [] ++ []) ++ (ds ++ spaces n)) same none ∙ ap₂ (λ xs ys. xs ++ ys) front (append-nil ds)

-- a number in base 10
decimal_right : (width n : ℕ) → styled_decimal (format_spec 32 3 0 width (2 ^ 64 - 1)) n ≡ at_right width (decimal n)
decimal_right zero n = let none : 0 ≡ 0 - length (decimal n) = omega arith in ap (λ m. spaces m ++ decimal n) none
decimal_right (suc width) n =
    ap (λ t. cond (t && true && true) (decimal n) (padded_integral (format_spec 32 3 0 (suc width) (2 ^ 64 - 1)) false [] (decimal n)))
    (ne_eqb (suc width) 0 (λ e. omega arith)) ∙ padded_right (suc width) (decimal n)

-- a number in base 16, after `0x`
pub number_left : (width : ℕ) (ds : List ℕ) (o : Option (List ℕ)) → o ≡ Some ds
    → (Some (codes "0x") ++? option_map (padded_integral (format_spec 32 1 0 width (2 ^ 64 - 1)) false []) o) ≡ Some (at_left (width + 2) (codes "0x" ++ ds))
number_left width ds o is =
    let same : width - length ds ≡ width + 2 - suc (suc (length ds)) = omega arith in
    ap (λ (t : Option (List ℕ)). Some (codes "0x") ++? option_map (padded_integral (format_spec 32 1 0 width (2 ^ 64 - 1)) false []) t) is
    ∙ ap (λ (xs : List ℕ). Some (codes "0x" ++ xs)) (padded_left width ds)
    ∙ ap (λ n. Some (codes "0x" ++ (ds ++ spaces n))) same

-- a number in base 10, before a unit
pub size_right : (width n : ℕ) (unit : List ℕ) → length unit ≡ 3
    → styled_decimal (format_spec 32 3 0 width (2 ^ 64 - 1)) n ++ unit ≡ at_right (width + 3) (decimal n ++ unit)
size_right width n unit three =
    let same : width - length (decimal n) ≡ width + 3 - length (decimal n ++ unit) = omega (arith, length-append (decimal n) unit, three) in
    ap (λ xs. xs ++ unit) (decimal_right width n) ∙ append_assoc (spaces (width - length (decimal n))) (decimal n) unit
    ∙ ap (λ m. spaces m ++ (decimal n ++ unit)) same
