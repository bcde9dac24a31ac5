-- Numbers as text: decimal digits, or `0x` and hexadecimal digits of either case.
use Rattle.std.specs.Prelude.{ℕ, ◌<◌, ◌^◌, ◌++◌, cond, Bool, false, List, codes, drop, nat_eq}
use Rattle.std.specs.Fmt.{digits}
use Rattle.std.specs.List.{starts_with}
use Rattle.std.specs.Str.Parse.{IsNumeral, digits_value}

-- Whether the text begins with `0x`.
abbrev pub is_hexadecimal : List ℕ → Bool
is_hexadecimal text = starts_with nat_eq text (codes "0x")

-- The base in which a text is read as a number: 16 if it begins with `0x`, and 10 otherwise.
abbrev pub radix_of : List ℕ → ℕ
radix_of text = cond (is_hexadecimal text) 16 10

-- The digits of a text: what is behind `0x` if the text begins with that, and otherwise the whole text.
abbrev pub digits_of : List ℕ → List ℕ
digits_of text = cond (is_hexadecimal text) (drop 2 text) text

-- The number that a text denotes by its digits, in base 16 if it begins with `0x`, and in base 10 otherwise.
abbrev pub number_of : List ℕ → ℕ
number_of text = digits_value (radix_of text) (digits_of text)

-- The text is a number below 2^64: it has one or more decimal digits, or `0x` and one or more hexadecimal digits of either case,
-- and nothing else.
abbrev pub IsNumber : List ℕ → Type 0
IsNumber text = IsNumeral (radix_of text) (digits_of text) × (number_of text < 2 ^ 64)

-- The text of a number: `0x` and its digits in base 16, in lower case and without leading zeros.
abbrev pub hexadecimal : ℕ → List ℕ
hexadecimal number = codes "0x" ++ digits 16 false number
