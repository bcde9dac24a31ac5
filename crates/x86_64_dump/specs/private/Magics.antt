-- Magics: the magic numbers in the code's table.
use Rattle.std.specs.Prelude.{ℕ, List, Option, drop, nat_eq, option_map}
use Rattle.std.specs.List.{find, starts_with}
use Rattle.x86_64_dump.specs.declared.formats.Format.{Format}
use Rattle.x86_64_dump.specs.declared.formats.Magic.{Magic}

-- The format of the first of these magic numbers that a file has, or None.
unfoldable pub first_format : (file : List ℕ) → List Magic → Option Format
first_format file magics = option_map (λ m. m.2) (find (λ m. starts_with nat_eq (drop m.0 file) m.1.now) magics)
