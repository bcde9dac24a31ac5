-- Flags as code represents them, and the text between the names of those that are set.
use Rattle.std.specs.Prelude.{ℕ, ◌==◌, bit_and, not, List, [], ◌∷◌, codes, filter}
use Rattle.ptdump_json.specs.Names.{Flag}
use Rattle.ptdump_json.specs.declared.names.Flag.{Flag as Listed}

-- A flag of entries as specifications have it, from the one in code: its bit and its name.
abbrev pub named_flag : Listed → Flag
named_flag f = record { bit = f.bit; name = f.name.now }

-- The flags of a list that are set in a word, in order.
abbrev pub set_in : (word : ℕ) → List Flag → List Flag
set_in word flags = filter (λ f. not (bit_and word f.bit == 0)) flags

-- The text that stands before the next name, after those of these flags: a comma, or nothing if there are no flags.
abbrev pub separator_after : List Flag → List ℕ
separator_after [] = []
separator_after (f ∷ fs) = codes ","
