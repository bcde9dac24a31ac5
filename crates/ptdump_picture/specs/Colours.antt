-- The colours of rights.
use Rattle.std.specs.Prelude.{ℕ, Bool, true, false, List, codes}

-- The colour of readable memory, by whether it is writable and executable: light blue if neither, blue if writable, yellow if
-- executable, dark red if both.
abbrev pub colour_of : (write execute : Bool) → List ℕ
colour_of false false = codes "#a6cee3"
colour_of true false = codes "#1f6fb4"
colour_of false true = codes "#f0b132"
colour_of true true = codes "#a50026"
