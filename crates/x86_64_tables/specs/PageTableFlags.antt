-- The flags of a page table entry.
use Rattle.std.specs.Prelude.{◌≡◌, ℕ, ◌^◌, List, [], ◌∷◌, codes, refl}
use Rattle.bitflags.specs.Sets.{known_bits, known_from}
use Rattle.x86_64_tables.specs.declared.page_table.flags.PageTableFlags.{PageTableFlags}

-- The flags as a number, whose bits are those of an entry's word.
abbrev pub bits_of : PageTableFlags → ℕ
bits_of given = given.0

-- The names of the flags of a page table entry, as text, each with its bit in the entry's word.
abbrev pub flag_table : List (List ℕ × ℕ)
flag_table =
    (codes "PRESENT", 2 ^ 0) ∷
    (codes "WRITABLE", 2 ^ 1) ∷
    (codes "USER_ACCESSIBLE", 2 ^ 2) ∷
    (codes "WRITE_THROUGH", 2 ^ 3) ∷
    (codes "NO_CACHE", 2 ^ 4) ∷
    (codes "ACCESSED", 2 ^ 5) ∷
    (codes "DIRTY", 2 ^ 6) ∷
    (codes "HUGE_PAGE", 2 ^ 7) ∷
    (codes "GLOBAL", 2 ^ 8) ∷
    (codes "BIT_9", 2 ^ 9) ∷
    (codes "BIT_10", 2 ^ 10) ∷
    (codes "BIT_11", 2 ^ 11) ∷
    (codes "BIT_52", 2 ^ 52) ∷
    (codes "BIT_53", 2 ^ 53) ∷
    (codes "BIT_54", 2 ^ 54) ∷
    (codes "BIT_55", 2 ^ 55) ∷
    (codes "BIT_56", 2 ^ 56) ∷
    (codes "BIT_57", 2 ^ 57) ∷
    (codes "BIT_58", 2 ^ 58) ∷
    (codes "BIT_59", 2 ^ 59) ∷
    (codes "BIT_60", 2 ^ 60) ∷
    (codes "BIT_61", 2 ^ 61) ∷
    (codes "BIT_62", 2 ^ 62) ∷
    (codes "NO_EXECUTE", 2 ^ 63) ∷ []

-- The flags with a name are all bits of an entry's word except 12 to 51, which hold the address.
pub known_bits-flag_table : known_bits flag_table ≡ 0xfff0_0000_0000_0fff
unfolding known_from
known_bits-flag_table = refl
