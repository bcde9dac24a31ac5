-- The fields of a line as texts.
use Rattle.std.specs.Prelude.{◌==◌, ◌&&◌, ◌^◌, nat_lt, ℕ, Bool, true, false, cond, List, [], ◌∷◌, bytes_eq, codes, drop, length, nat_le, filter, find, Option, Some, None, option_and_then, option_map}
use Rattle.std.specs.Char.{digit_value}
use Rattle.std.specs.List.{list_all, slice_split}
use Rattle.text.specs.Numbers.{digits_of, number_of, radix_of}
use Rattle.pagetab_engine.specs.declared.fields.Name.{Name}
use Rattle.pagetab_engine.specs.declared.fields.Name.TheVariants.{Word, Free, Translate, Addr, Walk, Show, Pool, Map, MapWith, Identity, Unmap, Update, P5, P4, P3, P2, TranslatePage, CleanUp, CleanUpRange}
use Rattle.pagetab_engine.specs.declared.fields.Size.{Size}
use Rattle.pagetab_engine.specs.declared.fields.Size.TheVariants.{Size4KiB, Size2MiB, Size1GiB}

-- Whether a byte is a space.
abbrev pub is_space : ℕ → Bool
is_space byte = byte == 32

-- Whether a text isn't empty.
abbrev pub has_bytes : List ℕ → Bool
has_bytes [] = false
has_bytes (byte ∷ bytes) = true

-- The fields of a line: its parts between spaces, without the empty ones.
unfoldable pub fields_of : List ℕ → List (List ℕ)
fields_of line = filter has_bytes (slice_split is_space line)

-- The first field of a line that is a statement of this name.
abbrev pub name_text : Name → List ℕ
name_text Word = codes "word"
name_text Free = codes "free"
name_text Translate = codes "translate"
name_text Addr = codes "addr"
name_text Walk = codes "walk"
name_text Show = codes "show"
name_text Pool = codes "pool"
name_text Map = codes "map"
name_text MapWith = codes "map-with"
name_text Identity = codes "identity"
name_text Unmap = codes "unmap"
name_text Update = codes "update"
name_text P5 = codes "p5"
name_text P4 = codes "p4"
name_text P3 = codes "p3"
name_text P2 = codes "p2"
name_text TranslatePage = codes "translate-page"
name_text CleanUp = codes "cleanup"
name_text CleanUpRange = codes "cleanup-range"

-- The field of a line that stands for a size of pages.
abbrev pub size_name : Size → List ℕ
size_name Size4KiB = codes "4KiB"
size_name Size2MiB = codes "2MiB"
size_name Size1GiB = codes "1GiB"

-- ---- the parts of a line

-- All names of statements.
abbrev pub all_names : List Name
all_names = Word ∷ Free ∷ Translate ∷ Addr ∷ Walk ∷ Show ∷ Pool ∷ Map ∷ MapWith ∷ Identity ∷ Unmap ∷ Update ∷ P5 ∷ P4 ∷ P3 ∷ P2 ∷ TranslatePage ∷ CleanUp ∷ CleanUpRange ∷ []

-- The name that a field is, if it is one.
abbrev pub name_in : (field : List ℕ) → Option Name
name_in field = find (λ name. bytes_eq (name_text name) field) all_names

-- The size that a field stands for, if it stands for one.
abbrev pub size_in : (field : List ℕ) → Option Size
size_in field = find (λ size. bytes_eq (size_name size) field) (Size4KiB ∷ Size2MiB ∷ Size1GiB ∷ [])

-- The size that the first of these fields stands for, if it stands for one.
abbrev pub size_first : (fields : List (List ℕ)) → Option Size
size_first [] = None
size_first (field ∷ fields) = size_in field

-- The fields without that of a size, if there is one.
abbrev pub behind_size : Option Size → (fields : List (List ℕ)) → List (List ℕ)
behind_size None fields = fields
behind_size (Some size) fields = drop 1 fields

-- Whether a text has one digit or more in this radix, and nothing else.
abbrev pub is_numeral : (radix : ℕ) → (text : List ℕ) → Bool
is_numeral radix text = has_bytes text && list_all (λ byte. nat_lt (digit_value byte) radix) text

-- Whether a text is a number: digits, or `0x` and hexadecimal ones, whose number is below 2^64.
abbrev pub is_number : (text : List ℕ) → Bool
is_number text = is_numeral (radix_of text) (digits_of text) && nat_lt (number_of text) (2 ^ 64)

-- The number that a text is, if it is one.
abbrev pub number_in : (text : List ℕ) → Option ℕ
number_in text = cond (is_number text) (Some (number_of text)) None

-- The numbers that these fields are, if each is one.
abbrev pub numbers_in : (fields : List (List ℕ)) → Option (List ℕ)
numbers_in [] = Some []
numbers_in (field ∷ fields) = option_and_then (λ number. option_map (λ numbers. number ∷ numbers) (numbers_in fields)) (number_in field)

-- The parts of a line: a name, a size if the second field is one, and numbers.
pub record Parts : Type 0 where
  pub name : Name
  pub size : Option Size
  pub numbers : List ℕ

-- The parts of a line with this name, size and numbers.
abbrev pub parts : Name → Option Size → (numbers : List ℕ) → Parts
parts name size numbers = record { name = name; size = size; numbers = numbers }

-- The parts with this name and size, and the numbers that follow the size in these fields, if only numbers follow.
abbrev pub parts_with : Name → Option Size → (fields : List (List ℕ)) → Option Parts
parts_with name size fields = option_map (parts name size) (numbers_in (behind_size size fields))

-- The parts that these fields are, if they are a name, a size or none, and numbers.
abbrev pub parts_in : (fields : List (List ℕ)) → Option Parts
parts_in [] = None
parts_in (first ∷ fields) = option_and_then (λ name. parts_with name (size_first fields) fields) (name_in first)

-- ---- what the parser reads

-- These numbers, if there are at most four.
abbrev pub at_most_four : Option (List ℕ) → Option (List ℕ)
at_most_four None = None
at_most_four (Some numbers) = cond (nat_le (length numbers) 4) (Some numbers) None

-- The parts that these fields are, if they are any with at most four numbers.
abbrev pub short_parts : (fields : List (List ℕ)) → Option Parts
short_parts fields = option_and_then (λ parts. cond (nat_le (length parts.numbers) 4) (Some parts) None) (parts_in fields)
