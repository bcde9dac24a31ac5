-- The page walk and `translate` of four and of five levels, written out word by word.
-- `page_walk 4`, `page_walk 5`, `translate 4` and `translate 5` equal these, so that nobody has to trust a recursion.
-- A position is the number of an address counted without the gap of the address space.
use Rattle.std.specs.Prelude.{ℕ, ◌+◌, ◌*◌, ◌/◌, ◌%◌, ◌^◌, ◌&&◌, not, Bool, cond, List, [], ◌∷◌, take, Option, Some, None, option_and_then, option_map}
use Rattle.std.specs.List.{list_all}
use Rattle.x86_64_model.specs.Position.{index}
use Rattle.x86_64_model.specs.Entry.{present, writable, user, huge, address, flags, used}
use Rattle.x86_64_model.specs.Memory.{Words}
use Rattle.x86_64_model.specs.PageWalk.{Walked, read}
use Rattle.x86_64_model.specs.Translation.{Translated, NotMapped, Mapped}

-- The four indices at a position, from level four down to level one.
abbrev pub path_of_four : (position : ℕ) → List ℕ
path_of_four p = index 4 p ∷ index 3 p ∷ index 2 p ∷ index 1 p ∷ []

-- The address in the entry of a 2MiB or 1GiB page, rounded down to the size in bytes.
abbrev pub start_of_page : (size entry : ℕ) → ℕ
start_of_page size e = address e / size * size

-- The result of a walk that arrives at this address, having read these words: it has the right to write if all have WRITABLE,
-- and that of user mode if all have USER_ACCESSIBLE.
abbrev pub arrives_by_words : (to : ℕ) (words : List ℕ) → Option Walked
arrives_by_words to words = Some (record { address = to; write = list_all writable words; user = list_all user words })

-- The rest of the walk at position p from level one down, below the words w4, w3 and w2 of levels four, three and two.
abbrev pub walk_1 : Words → (p w4 w3 w2 : ℕ) → Option Walked
walk_1 tables p w4 w3 w2 = option_and_then
    (λ w1. cond (present w1) (arrives_by_words (address w1 + p % 2 ^ 12) (w4 ∷ w3 ∷ w2 ∷ w1 ∷ [])) None)
    (read tables (address w2) (index 1 p))

-- The rest of the walk at position p from level two down, below the words w4 and w3 of levels four and three.
abbrev pub walk_2 : Words → (p w4 w3 : ℕ) → Option Walked
walk_2 tables p w4 w3 = option_and_then
    (λ w2. cond (present w2) (cond (huge w2) (arrives_by_words (start_of_page (2 ^ 21) w2 + p % 2 ^ 21) (w4 ∷ w3 ∷ w2 ∷ [])) (walk_1 tables p w4 w3 w2)) None)
    (read tables (address w3) (index 2 p))

-- The rest of the walk at position p from level three down, below the word w4 of level four.
abbrev pub walk_3 : Words → (p w4 : ℕ) → Option Walked
walk_3 tables p w4 = option_and_then
    (λ w3. cond (present w3) (cond (huge w3) (arrives_by_words (start_of_page (2 ^ 30) w3 + p % 2 ^ 30) (w4 ∷ w3 ∷ [])) (walk_2 tables p w4 w3)) None)
    (read tables (address w4) (index 3 p))

-- The page walk of four levels at position p, from the table in the root's frame, written out word by word.
unfoldable pub walk_4 : Words → (root p : ℕ) → Option Walked
walk_4 tables root p = option_and_then (λ w4. cond (present w4 && not (huge w4)) (walk_3 tables p w4) None) (read tables root (index 4 p))

-- The answer of `translate` with four levels at position p, from the entries at the first one, two, three and four indices of
-- its path.
abbrev pub answered : (p e1 e2 e3 e4 : ℕ) → Translated
answered p e1 e2 e3 e4 =
    cond (present e1)
    (cond (present e2) (cond (huge e2) (Mapped (2 ^ 30) (start_of_page (2 ^ 30) e2) (p % 2 ^ 30) (flags e2))
    (cond (present e3) (cond (huge e3) (Mapped (2 ^ 21) (start_of_page (2 ^ 21) e3) (p % 2 ^ 21) (flags e3))
    (cond (used e4) (Mapped (2 ^ 12) (address e4) (p % 2 ^ 12) (flags e4)) NotMapped))
    NotMapped)) NotMapped) NotMapped

-- The answer of `translate` with four levels at position p, written out entry by entry. E returns the entry at a path.
unfoldable pub translate_4 : (E : List ℕ → ℕ) (p : ℕ) → Translated
translate_4 E p = answered p (E (take 1 (path_of_four p))) (E (take 2 (path_of_four p))) (E (take 3 (path_of_four p))) (E (path_of_four p))

-- ---- five levels: one level above four

-- The result of a walk with only those rights that a word above grants too: w is its right to write, and u that of user mode.
abbrev pub narrowed : (w u : Bool) → Option Walked → Option Walked
narrowed w u = option_map (λ v. record { address = v.address; write = w && v.write; user = u && v.user })

-- The page walk of five levels at position p: the root's word leads to a table in which the walk of four levels goes on, with
-- only those rights that this word grants too. A word that is huge or isn't present leads nowhere.
unfoldable pub walk_5 : Words → (root p : ℕ) → Option Walked
walk_5 tables root p = option_and_then
    (λ w5. cond (present w5 && not (huge w5)) (narrowed (writable w5) (user w5) (walk_4 tables (address w5) p)) None)
    (read tables root (index 5 p))

-- The answer of `translate` with five levels at position p: if the root's entry is present, it is that of four levels below it,
-- otherwise nothing is mapped. E returns the entry at a path.
unfoldable pub translate_5 : (E : List ℕ → ℕ) (p : ℕ) → Translated
translate_5 E p = cond (present (E (index 5 p ∷ []))) (translate_4 (λ q. E (index 5 p ∷ q)) p) NotMapped
