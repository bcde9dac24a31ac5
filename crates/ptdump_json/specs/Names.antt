-- Names: the flags of a mapping by the names that the processor manuals give them, where W stands for R/W, and U for U/S.
-- Intel SDM vol. 3A, "4-Level Paging and 5-Level Paging"; AMD APM vol. 2, "Page-Translation-Table Entry Fields".
use Rattle.std.specs.Prelude.{ℕ, ◌++◌, ◌==◌, ◌/◌, ◌%◌, ◌^◌, bit_and, not, Bool, cond, if◌then◌else◌, List, [], ◌∷◌, codes, decimal, filter}
use Rattle.std.specs.List.{join_by}
use Rattle.text.specs.Numbers.{hexadecimal}
use Rattle.x86_64_mappings.specs.Texts.{mapping_text}
use Rattle.x86_64_model.specs.Mappings.{Mapping}

-- A flag of an entry: its bit as a mask, and its name.
pub record Flag : Type 0 where
  pub bit : ℕ
  pub name : List ℕ

-- The flag with this bit and this name.
abbrev pub flag : (bit : ℕ) → (name : List ℕ) → Flag
flag bit name = record { bit = bit; name = name }

-- The flags that a page's entry may have, in the order in which their names are written. Bit 7 of a 4KiB page's entry is PAT, and
-- that of a larger page's entry is PS.
unfoldable pub flags_of : (is_large : Bool) → List Flag
flags_of is_large =
    flag 0x1 (codes "P") ∷ flag 0x2 (codes "W") ∷ flag 0x4 (codes "U") ∷ flag 0x20 (codes "A")
    ∷ flag 0x40 (codes "D")
    ∷ flag 0x100 (codes "G") ∷ flag (cond is_large 0x80 0) (codes "PS") ∷ flag (2 ^ 63) (codes "NX")
    ∷ flag 0x8 (codes "PWT") ∷ flag 0x10 (codes "PCD") ∷ flag (cond is_large 0 0x80) (codes "PAT") ∷ []

-- The names of those flags that are set in a word, with commas between them.
abbrev pub set_text : (word : ℕ) → List Flag → List ℕ
set_text word flags = join_by (λ f. f.name) (codes ",") (filter (λ f. not (bit_and word f.bit == 0)) flags)

-- The text of a word's protection key, bits 59 to 62, or nothing if the key is 0.
abbrev pub protection_key_text : (word : ℕ) → List ℕ
protection_key_text word =
    let key = word / 2 ^ 59 % 16 in
    if key == 0 then [] else codes ",KEY=" ++ decimal key

-- The text of the bits 9 to 11 and 52 to 58 of a word, which are software's, or nothing if none is set.
abbrev pub software_text : (word : ℕ) → List ℕ
software_text word =
    let bits = bit_and word 0x07f0_0000_0000_0e00 in
    if bits == 0 then [] else codes ",SW=" ++ hexadecimal bits

-- The names of what is set in the word of a page of `size` bytes. The first is P, since a page is present.
unfoldable pub names_text : (size word : ℕ) → List ℕ
names_text size word =
    set_text word (flags_of (not (size == 0x1000))) ++ protection_key_text word ++ software_text word

-- The line of a mapping with the names of its flags, without its line feed.
abbrev pub named_text : (L : ℕ) → Mapping → List ℕ
named_text L m = mapping_text L m ++ codes " " ++ names_text m.size m.flags
