-- Parts of a larger page: the 512 smaller pages of equal size that map the same frames.
-- Intel SDM vol. 3A, "Formats of paging-structure entries"; AMD APM vol. 2, "Page-Translation-Table Entry Fields".
use Rattle.std.specs.Prelude.{◌≡◌, ◌<◌, ◌==◌, ◌||◌, ℕ, Bool, not, cond, List, map, get_or, Option, Some, None, bit_and, bit_or}
use Rattle.std.specs.List.{list_any, range_with_len}
use Rattle.x86_64_live.specs.declared.parts.SplitError.{SplitError}
use Rattle.x86_64_live.specs.declared.parts.SplitError.TheVariants.{NoSuchLevel, PageNotMapped, HasTable, InvalidFrameAddress}
use Rattle.x86_64_model.specs.Access.{low_bits}
use Rattle.x86_64_model.specs.Entry.{has, huge, used, writable}
use Rattle.x86_64_model.specs.Laws.Splits.{part_of_2mib, part_of_1gib}
use Rattle.x86_64_model.specs.Mappings.{every_right, granted}

-- Why the word of an entry of a level isn't that of a page which has parts, if it isn't: only pages of levels two (2MiB) and three
-- (1GiB) have parts, and the word of such a page has HUGE_PAGE, and an address that is a multiple of the page's size.
abbrev pub split_refusal : (level entry : ℕ) → Option SplitError
split_refusal level e = cond (not ((level == 2) || (level == 3))) (Some NoSuchLevel)
    (cond (not (used e)) (Some PageNotMapped)
    (cond (not (huge e)) (Some HasTable)
    (cond (bit_and e (low_bits level) == 0) None (Some InvalidFrameAddress))))

-- The word of the j-th part of a page of level two or three, by the word of the page, with all its flags, its marks and its PAT bit.
-- The PAT bit of a larger page is bit 12.
abbrev pub part_of : (level entry j : ℕ) → ℕ
part_of level e j = cond (level == 2) (part_of_2mib e j) (bit_or (part_of_1gib e j) (cond (has e 0x1000) 0x1000 0))

-- The words of a table of the parts of a page, by the word of the page.
unfoldable pub parts_of : (level entry : ℕ) → List ℕ
parts_of level e = map (part_of level e) (range_with_len 0 512)

-- The bits of a word that say where a page lies and which kind of memory it is: PRESENT, WRITE_THROUGH, NO_CACHE, bit 7 (HUGE_PAGE or
-- PAT), GLOBAL, the address with PAT among its bits, and the protection key. Neither marks nor bits that no processor reads are among
-- them.
abbrev pub part_bits : ℕ
part_bits = 0x780f_ffff_ffff_f199

-- Below the entry t, which names its table, a word maps the j-th part of a page that has the word e: the same frame as the same kind of
-- memory, with the rights that e grants.
pub record IsPartOf (level e t j word : ℕ) : Type 0 where
  pub kind : bit_and word part_bits ≡ bit_and (part_of level e j) part_bits
  pub rights : granted (granted every_right t) word ≡ granted every_right e

-- Below the entry t, which names their table, these words map the parts of a page that has the word e.
pub record MapsParts (level e t : ℕ) (words : List ℕ) : Type 0 where
  pub page : split_refusal level e ≡ None
  pub parts : (j : ℕ) → j < 512 → IsPartOf level e t j (get_or words j 0)

-- Whether one of these words has DIRTY.
abbrev pub any_dirty : (words : List ℕ) → Bool
any_dirty words = list_any (λ word. has word 0x40) words

-- The word of a larger page that takes the place of its parts: with ACCESSED, and with DIRTY if the page is writable or a part has it.
abbrev pub page_of_parts : (entry : ℕ) → (words : List ℕ) → ℕ
page_of_parts e words = bit_or e (bit_or 0x20 (cond (writable e || any_dirty words) 0x40 0))
