-- Numbers of a command line: decimal digits without zeros in front, or `0x` and hexadecimal digits. QEMU prints registers as hexadecimal
-- digits without `0x`, with zeros in front.
use Rattle.std.specs.Prelude.{◌≡◌, ◌&&◌, ℕ, Bool, false, not, List, codes, length, nat_eq, nat_lt}
use Rattle.std.specs.List.{starts_with}
use Rattle.text.specs.Numbers as lenient
pub use Rattle.text.specs.Numbers.{number_of}

-- Whether a text begins with 0, has more characters, and doesn't begin with `0x`.
unfoldable pub has_zero_in_front : (text : List ℕ) → Bool
has_zero_in_front text = nat_lt 1 (length text) && starts_with nat_eq text (codes "0") && not (lenient.is_hexadecimal text)

-- The text is a number below 2^64, in decimal digits without zeros in front, or in hexadecimal digits behind `0x`.
abbrev pub IsNumeral : (text : List ℕ) → Type 0
IsNumeral text = lenient.IsNumber text × (has_zero_in_front text ≡ false)
