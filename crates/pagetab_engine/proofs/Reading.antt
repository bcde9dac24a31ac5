-- Texts are parsed as numbers, one after another.
use Rattle.std.proofs.Common.{◌≡◌, ◌<◌, ◌^◌, ℕ, nat_le, nat_lt, Bool, true, false, true≢false, cond, List, [], ◌∷◌, ◌++◌, length, Option, Some, None, SomeIff, option_and_then, option_map, refl, sym, ap, ◌∙◌, arith, leb-true, append_assoc, length-append}
use Rattle.std.proofs.lemmas.Bool.Decides.{Decides-and, Decides-ltb}
use Rattle.std.specs.Bool.{Decides}
use Rattle.std.specs.Char.{digit_value}
use Rattle.std.specs.List.{list_all}
use Rattle.std.specs.Str.Parse.{AllDigits}
use Rattle.text.specs.Numbers.{IsNumber, digits_of, number_of, radix_of}
use Rattle.pagetab_engine.specs.Fields.{at_most_four, has_bytes, is_number, is_numeral, number_in, numbers_in}

has_bytes_tells : (text : List ℕ) → Decides (has_bytes text) (0 < length text)
has_bytes_tells [] = (λ e. absurd (true≢false (sym e)), λ some. absurd (omega arith))
has_bytes_tells (byte ∷ bytes) = (λ _. omega arith, λ _. refl)

digits_tell : (radix : ℕ) (text : List ℕ) → Decides (list_all (λ byte. nat_lt (digit_value byte) radix) text) (AllDigits radix text)
digits_tell radix [] = (λ _. tt, λ _. refl)
digits_tell radix (byte ∷ bytes) = Decides-and (nat_lt (digit_value byte) radix) (list_all (λ byte. nat_lt (digit_value byte) radix) bytes) (Decides-ltb (digit_value byte) radix) (digits_tell radix bytes)

pub is_number_tells : (text : List ℕ) → Decides (is_number text) (IsNumber text)
is_number_tells text =
    let radix = radix_of text in let digits = digits_of text in
    Decides-and (is_numeral radix digits) (nat_lt (number_of text) (2 ^ 64))
    (Decides-and (has_bytes digits) (list_all (λ byte. nat_lt (digit_value byte) radix) digits) (has_bytes_tells digits) (digits_tell radix digits)) (Decides-ltb (number_of text) (2 ^ 64))

-- what is parsed is the number
pub number_found : (text : List ℕ) (found : Option ℕ) → SomeIff found (IsNumber text) (number_of text) → number_in text ≡ found
number_found text (Some n) is = ap (λ b. cond b (Some (number_of text)) None) ((is_number_tells text).1 is.0) ∙ ap Some (sym is.1)
number_found text None isnt = by (is_number text) refl
  where
    by : (b : Bool) → is_number text ≡ b → cond b (Some (number_of text)) None ≡ None
    by false is = refl
    by true is = absurd (isnt ((is_number_tells text).0 is))

-- all numbers are the first ones and those of the fields that are left, which begin with this one
module _ (all : Option (List ℕ)) (first field : List ℕ) (left rest : List (List ℕ)) (so_far : all ≡ option_map (λ ns. first ++ ns) (numbers_in left)) (next : left ≡ field ∷ rest) where
  abbrev with_next : Option ℕ → Option (List ℕ) → Option (List ℕ)
  with_next number numbers = option_map (λ ns. first ++ ns) (option_and_then (λ n. option_map (λ ns. n ∷ ns) numbers) number)

  all_with : (number : Option ℕ) → number_in field ≡ number → all ≡ with_next number (numbers_in rest)
  all_with number is = so_far ∙ ap (λ fields. option_map (λ ns. first ++ ns) (numbers_in fields)) next ∙ ap (λ number. with_next number (numbers_in rest)) is

  pub no_number : number_in field ≡ None → at_most_four all ≡ None
  no_number none = ap at_most_four (all_with None none)

  pub one_more : (n : ℕ) → number_in field ≡ Some n → all ≡ option_map (λ ns. (first ++ n ∷ []) ++ ns) (numbers_in rest)
  one_more n some = all_with (Some n) some ∙ by (numbers_in rest)
    where
      by : (numbers : Option (List ℕ)) → with_next (Some n) numbers ≡ option_map (λ ns. (first ++ n ∷ []) ++ ns) numbers
      by None = refl
      by (Some ns) = ap Some (sym (append_assoc first (n ∷ []) ns))

  pub too_many : length first ≡ 4 → at_most_four all ≡ None
  too_many four = ap at_most_four (all_with (number_in field) refl) ∙ by (number_in field) (numbers_in rest)
    where
      tested : (numbers : List ℕ) → 4 < length numbers → (b : Bool) → nat_le (length numbers) 4 ≡ b → cond b (Some numbers) None ≡ None
      tested numbers many false is = refl
      tested numbers many true is = absurd (let few = leb-true (length numbers) 4 is in omega arith)

      by : (number : Option ℕ) (numbers : Option (List ℕ)) → at_most_four (with_next number numbers) ≡ None
      by None numbers = refl
      by (Some n) None = refl
      by (Some n) (Some ns) = tested (first ++ n ∷ ns) (omega (arith, length-append first (n ∷ ns))) (nat_le (length (first ++ n ∷ ns)) 4) refl
