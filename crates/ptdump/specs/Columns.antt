-- Columns: the columns that --columns asks for.
use Rattle.std.specs.Prelude.{ℕ, ◌&&◌, ◌||◌, Bool, if◌then◌else◌, List, Option, None, Some, codes}
use Rattle.std.specs.Str.{bytes_eq}
use Rattle.ptdump_json.specs.declared.options.Columns.{Columns}
use Rattle.ptdump_json.specs.declared.options.Columns.TheVariants.{Plain, Aligned}

-- Whether columns are aligned, by the word of --columns: always if it is `aligned`, and if standard output is a terminal if it is
-- `auto` or missing.
abbrev pub are_aligned : (is_terminal : Bool) → (word : Option (List ℕ)) → Bool
are_aligned is_terminal None = is_terminal
are_aligned is_terminal (Some word) = bytes_eq word (codes "aligned") || (bytes_eq word (codes "auto") && is_terminal)

-- The columns that the word of --columns asks for: aligned if it is `aligned`, or if it is `auto` or missing and standard output is
-- a terminal, and plain otherwise.
abbrev pub columns_for : (is_terminal : Bool) → (word : Option (List ℕ)) → Columns
columns_for is_terminal word = if are_aligned is_terminal word then Aligned else Plain
