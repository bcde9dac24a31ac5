-- The bits of the error code of a page fault.
use Rattle.std.specs.Prelude.{ℕ, ◌^◌, List, [], ◌∷◌, codes}

-- The name and the bit of each flag of a page fault's error code, in the order of the bits.
abbrev pub code_table : List (List ℕ × ℕ)
code_table =
    (codes "PROTECTION_VIOLATION", 2 ^ 0) ∷
    (codes "CAUSED_BY_WRITE", 2 ^ 1) ∷
    (codes "USER_MODE", 2 ^ 2) ∷
    (codes "MALFORMED_TABLE", 2 ^ 3) ∷
    (codes "INSTRUCTION_FETCH", 2 ^ 4) ∷ []
