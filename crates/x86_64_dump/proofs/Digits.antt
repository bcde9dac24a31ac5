-- Digits: texts of digits, as a test says of them.
use Rattle.std.proofs.Common.{◌≡◌, ℕ, zero, suc, ◌<◌, ◌≤◌, ◌^◌, ◌==◌, ◌&&◌, Bool, true, false, true≢false, not, cond, List, [], ◌∷◌, Option, Some, None, SomeIff, length, refl, ap, sym, ◌∙◌, arith, nat_lt, tests, ne_eqb, lt-ltb, ltb-true, IsAscii, IsUtf8}
use Rattle.std.specs.Char.{digit_value, is_digit}
use Rattle.std.specs.List.{list_all}
use Rattle.std.specs.Str.Parse.{AllDigits, IsNumeral, digits_value}
use Rattle.std.proofs.lemmas.Bool.{and_from, and_parts}
use Rattle.std.proofs.lemmas.Str.{IsUtf8-from_ascii}
use Rattle.x86_64_dump.specs.VmCoreInfo.{number_in_radix}

tested : (radix : ℕ) (ds : List ℕ) → AllDigits radix ds → list_all (λ d. is_digit d radix) ds ≡ true
tested radix [] are = refl
tested radix (d ∷ ds) are = and_from (is_digit d radix) (list_all (λ d. is_digit d radix) ds) (lt-ltb (digit_value d) radix are.0) (tested radix ds are.1)

all_digits : (radix : ℕ) (ds : List ℕ) → list_all (λ d. is_digit d radix) ds ≡ true → AllDigits radix ds
all_digits radix [] are = tt
all_digits radix (d ∷ ds) are =
    let parts = and_parts (is_digit d radix) (list_all (λ d. is_digit d radix) ds) are in
    (ltb-true (digit_value d) radix parts.0, all_digits radix ds parts.1)

-- digits are ASCII
below_128 : (d : ℕ) → digit_value d < 36 → d < 128
below_128 d is = grind (arith, tests, is)

ascii : (radix : ℕ) (ds : List ℕ) → radix ≤ 36 → AllDigits radix ds → IsAscii ds
ascii radix [] small are i = omega arith
ascii radix (d ∷ ds) small are zero = below_128 d (omega (arith, are.0))
ascii radix (d ∷ ds) small are (suc i) = ascii radix ds small are.1 i

is_number : (radix : ℕ) → List ℕ → Bool
is_number radix ds = not (length ds == 0) && list_all (λ d. is_digit d radix) ds && nat_lt (digits_value radix ds) (2 ^ 64)

numeral_there : (radix : ℕ) (ds : List ℕ) → IsNumeral radix ds → digits_value radix ds < 2 ^ 64 → is_number radix ds ≡ true
unfolding is_number
numeral_there radix ds are small =
    let some = not (length ds == 0) in
    let all = list_all (λ d. is_digit d radix) ds in
    and_from (some && all) (nat_lt (digits_value radix ds) (2 ^ 64)) (and_from some all (ap not (ne_eqb (length ds) 0 (λ none. omega (arith, are.0, none)))) (tested radix ds are.1))
    (lt-ltb (digits_value radix ds) (2 ^ 64) small)

some_digit : (ds : List ℕ) → not (length ds == 0) ≡ true → 0 < length ds
some_digit [] is = absurd (true≢false (sym is))
some_digit (d ∷ ds) is = omega arith

numeral_here : (radix : ℕ) (ds : List ℕ) → is_number radix ds ≡ true → IsNumeral radix ds × (digits_value radix ds < 2 ^ 64)
unfolding is_number
numeral_here radix ds is =
    let some = not (length ds == 0) in
    let all = list_all (λ d. is_digit d radix) ds in
    let parts = and_parts (some && all) (nat_lt (digits_value radix ds) (2 ^ 64)) is in
    let first = and_parts some all parts.0 in
    ((some_digit ds first.0, all_digits radix ds first.1), ltb-true (digits_value radix ds) (2 ^ 64) parts.1)

-- if the text is read as a number, or if it isn't
pub number_read : (radix : ℕ) (ds : List ℕ) (found : Option ℕ) → SomeIff found (IsNumeral radix ds × (digits_value radix ds < 2 ^ 64)) (digits_value radix ds) → found ≡ number_in_radix radix ds
unfolding number_in_radix is_number
number_read radix ds (Some n) is = ap Some is.1 ∙ sym (ap (λ b. cond b (Some (digits_value radix ds)) None) (numeral_there radix ds is.0.0 is.0.1))
number_read radix ds None isnt = by (is_number radix ds) refl
  where
    by : (b : Bool) → is_number radix ds ≡ b → None ≡ cond b (Some (digits_value radix ds)) None
    by false is = refl
    by true is = absurd (isnt (numeral_here radix ds is))

-- a text that isn't UTF-8 is no number
pub no_number : (radix : ℕ) (ds : List ℕ) → radix ≤ 36 → ¬ (IsUtf8 ds) → None ≡ number_in_radix radix ds
no_number radix ds small isnt = number_read radix ds None (λ are. isnt (IsUtf8-from_ascii ds (ascii radix ds small are.0.1)))
