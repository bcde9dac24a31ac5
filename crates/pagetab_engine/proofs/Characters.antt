-- A line with a statement has only ASCII characters, so it is a text.
use Rattle.std.proofs.Common.{◌≡◌, ◌≤◌, ◌<◌, ℕ, Bool, true, false, refl, cond, nat_lt, codes, bytes_eq, drop, filter, option_and_then, option_map, List, [], ◌∷◌, ◌++◌, Option, Some, None, IsUtf8, arith, subst}
use Rattle.std.specs.List.{All, AllByRecursion, slice_split, onto_first, list_all}
use Rattle.std.specs.Char.{digit_value}
use Rattle.std.specs.Str.Parse.{AllDigits, IsNumeral}
use Rattle.std.proofs.lemmas.Bool.Decides.{Decides-by_and, Decides-ltb, Decides-eqb, nat_tests}
use Rattle.std.proofs.lemmas.List.Elements.{All-nil, All-cons, All-head, All-tail, All-append, All-same}
use Rattle.std.proofs.lemmas.Slice.Eq.{starts_is}
use Rattle.std.proofs.lemmas.Str.{IsUtf8-from_ascii}
use Rattle.std.proofs.lemmas.Str.Ascii.{IsAscii-from_all}
use Rattle.std.proofs.lemmas.Bool.{eqb-true}
use Rattle.std.proofs.lemmas.Option.{cond_some}
use Rattle.std.proofs.lemmas.Slice.Eq.{bytes_eq-Decides}
use Rattle.text.specs.Numbers.{IsNumber, is_hexadecimal, number_of}
use Rattle.pagetab_engine.specs.Fields.{Parts, all_names, behind_size, fields_of, has_bytes, is_number, is_space, name_in, name_text, number_in, numbers_in, parts, parts_in, size_first, size_in, size_name}
use Rattle.pagetab_engine.specs.declared.fields.Name.{Name}
use Rattle.pagetab_engine.specs.declared.fields.Name.TheVariants as name
use Rattle.pagetab_engine.specs.declared.fields.Size.{Size}
use Rattle.pagetab_engine.specs.declared.fields.Size.TheVariants.{Size4KiB, Size2MiB, Size1GiB}
use Rattle.pagetab_engine.proofs.Lists.{found}
use Rattle.pagetab_engine.proofs.Reading.{is_number_tells}

abbrev IsLow : (byte : ℕ) → Type 0
IsLow byte = byte < 128

abbrev AreLow : (text : List ℕ) → Type 0
AreLow text = All IsLow text

abbrev is_low : (byte : ℕ) → Bool
is_low byte = nat_lt byte 128

tested : (text : List ℕ) → list_all is_low text ≡ true → AreLow text
tested text test = (Decides-by_and is_low IsLow (list_all is_low) (λ byte. Decides-ltb byte 128) refl (λ byte bytes. refl) text).0 test

name_is : (text : List ℕ) (name : Name) → name_in text ≡ Some name → name_text name ≡ text
name_is text name is = (bytes_eq-Decides (name_text name) text).0 (found (λ name. bytes_eq (name_text name) text) all_names name is)

size_is : (text : List ℕ) (size : Size) → size_in text ≡ Some size → size_name size ≡ text
size_is text size is = (bytes_eq-Decides (size_name size) text).0 (found (λ size. bytes_eq (size_name size) text) (Size4KiB ∷ Size2MiB ∷ Size1GiB ∷ []) size is)

name_test : (name : Name) → list_all is_low (name_text name) ≡ true
name_test name.Word = refl
name_test name = refl

size_test : (size : Size) → list_all is_low (size_name size) ≡ true
size_test Size4KiB = refl
size_test size = refl

digit_low : (byte radix : ℕ) → radix ≤ 36 → digit_value byte < radix → IsLow byte
digit_low byte radix small digit = grind (arith, nat_tests)

digits_low : (radix : ℕ) (digits : List ℕ) → radix ≤ 36 → AllDigits radix digits → AreLow digits
digits_low radix [] small all = All-nil IsLow
digits_low radix (byte ∷ bytes) small all = All-cons IsLow byte bytes (digit_low byte radix small all.0) (digits_low radix bytes small all.1)

number_low : (text : List ℕ) → IsNumber text → AreLow text
number_low text is = by (is_hexadecimal text) refl is.0
  where
    by : (test : Bool) → test ≡ is_hexadecimal text → IsNumeral (cond test 16 10) (cond test (drop 2 text) text) → AreLow text
    by false of numeral = digits_low 10 text (omega arith) numeral.1
    by true of numeral =
        let split = (starts_is Decides-eqb text (codes "0x") true of).0 refl in
        All-same IsLow text (codes "0x" ++ drop 2 text) split (All-append IsLow (codes "0x") (drop 2 text) (tested (codes "0x") refl) (digits_low 16 (drop 2 text) (omega arith) numeral.1))

numbers_low : (texts : List (List ℕ)) (numbers : List ℕ) → numbers_in texts ≡ Some numbers → AllByRecursion AreLow texts
numbers_low [] numbers are = tt
numbers_low (text ∷ texts) numbers are = by (number_in text) refl (numbers_in texts) (numbers_low texts) are
  where
    by : (first : Option ℕ) → number_in text ≡ first → (rest : Option (List ℕ)) → ((ns : List ℕ) → rest ≡ Some ns → AllByRecursion AreLow texts)
        → option_and_then (λ n. option_map (λ ns. n ∷ ns) rest) first ≡ Some numbers → AllByRecursion AreLow (text ∷ texts)
    by None none rest low are = cc
    by (Some n) some None low are = cc
    by (Some n) some (Some ns) low are = (number_low text ((is_number_tells text).0 (cond_some (is_number text) (number_of text) n some).0), low ns refl)

-- a field that is a size has low bytes, too
rest_low : (fields : List (List ℕ)) → AllByRecursion AreLow (behind_size (size_first fields) fields) → AllByRecursion AreLow fields
rest_low [] low = tt
rest_low (field ∷ fields) low = by (size_in field) refl low
  where
    by : (size : Option Size) → size_in field ≡ size → AllByRecursion AreLow (behind_size size (field ∷ fields)) → AllByRecursion AreLow (field ∷ fields)
    by None none low = low
    by (Some size) some low = (subst AreLow (size_is field size some) (tested (size_name size) (size_test size)), low)

-- the empty parts have no other bytes
parts_low : (parts : List (List ℕ)) → AllByRecursion AreLow (filter has_bytes parts) → AllByRecursion AreLow parts
parts_low [] low = tt
parts_low ([] ∷ parts) low = (All-nil IsLow, parts_low parts low)
parts_low ((byte ∷ bytes) ∷ parts) low = (low.0, parts_low parts low.1)

first_low : (byte : ℕ) (parts : List (List ℕ)) → AllByRecursion AreLow (onto_first byte parts) → IsLow byte × AllByRecursion AreLow parts
first_low byte [] low = (All-head IsLow byte [] low.0, tt)
first_low byte (part ∷ parts) low = (All-head IsLow byte part low.0, (All-tail IsLow byte part low.0, low.1))

split_low : (line : List ℕ) → AllByRecursion AreLow (slice_split is_space line) → AreLow line
split_low [] low = All-nil IsLow
split_low (byte ∷ bytes) low = by (is_space byte) refl (split_low bytes) low
  where
    by : (space : Bool) → is_space byte ≡ space → (AllByRecursion AreLow (slice_split is_space bytes) → AreLow bytes)
        → AllByRecursion AreLow (cond space ([] ∷ slice_split is_space bytes) (onto_first byte (slice_split is_space bytes))) → AreLow (byte ∷ bytes)
    by true is rest parts = let space = eqb-true byte 32 is in All-cons IsLow byte bytes (omega arith) (rest parts.1)
    by false is rest parts = let first = first_low byte (slice_split is_space bytes) parts in All-cons IsLow byte bytes first.0 (rest first.1)

line_low : (line : List ℕ) → AllByRecursion AreLow (fields_of line) → AreLow line
unfolding fields_of
line_low line low = split_low line (parts_low (slice_split is_space line) low)

parts_are_low : (fields : List (List ℕ)) (parts : Parts) → parts_in fields ≡ Some parts → AllByRecursion AreLow fields
parts_are_low [] read is = cc
parts_are_low (first ∷ fields) read is = by (name_in first) refl (numbers_in (behind_size (size_first fields) fields)) refl is
  where
    by : (name : Option Name) → name_in first ≡ name → (numbers : Option (List ℕ)) → numbers_in (behind_size (size_first fields) fields) ≡ numbers
        → option_and_then (λ name. option_map (parts name (size_first fields)) numbers) name ≡ Some read → AllByRecursion AreLow (first ∷ fields)
    by None none numbers are is = cc
    by (Some name) some None are is = cc
    by (Some name) some (Some numbers) are is = (subst AreLow (name_is first name some) (tested (name_text name) (name_test name)), rest_low fields (numbers_low (behind_size (size_first fields) fields) numbers are))

-- a line with a name and numbers is a text
pub is_text : (line : List ℕ) (read : Parts) → parts_in (fields_of line) ≡ Some read → IsUtf8 line
is_text line read is = IsUtf8-from_ascii line (IsAscii-from_all line (line_low line (parts_are_low (fields_of line) read is)))
