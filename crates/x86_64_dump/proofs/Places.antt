-- The numbers of frames, and memories that are filled place by place.
use Rattle.std.proofs.Common.{◌≡◌, ◌≢◌, ⊎_elim, ℕ, ◌+◌, ◌*◌, ◌/◌, ◌%◌, ◌^◌, ◌<◌, ◌==◌, ◌||◌, Bool, true, false, cond, List, [], ◌∷◌, ◌++◌, length, map, drop, take, get_or, Option, Some, None, IsSome, is_some, refl, sym, ap, ap₂, subst, ◌∙◌, arith, eq-eqb, eqb-true, ne_eqb, ◌-◌, slice_index}
use Rattle.std.specs.Prelude.{Vec}
use Rattle.std.specs.FinMap.{get, len, get-empty, get-insert}
use Rattle.std.specs.List.{list_any, dedup, dedup_from}
use Rattle.std.specs.Cmp.{nat_cmp_total}
use Rattle.std.specs.List.Sorted.{IsStrictlyIncreasing}
use Rattle.std.specs.Ordering.{nat_cmp, eq_by_cmp}
use Rattle.std.proofs.lemmas.Bool.{cases_eq}
use Rattle.std.proofs.lemmas.List.{get_or-drop, take_rest}
use Rattle.std.proofs.lemmas.List.Folds.{Any-from_list_any, list_any_at, list_any_more, list_any-append}
use Rattle.std.proofs.Math.Bool.{or_assoc, or-false}
use Rattle.x86_64_model.specs.Entry.{is_frame, address}
use Rattle.x86_64_model.proofs.Lemmas.Entries.Bits.{same_frame}
use Rattle.x86_64_model.proofs.Lemmas.Entries.Words.{address-multiple, address_aligned}
use Rattle.x86_64_model.proofs.Lemmas.Hierarchies.Memories.{same_key, other_key}
use Rattle.x86_64_model.specs.Memory.{Memory, Words, words_of, identity_places}
use Rattle.x86_64_tables.specs.PhysMemory.{length_keys, tables_at}
use Rattle.x86_64_tables.proofs.PlacesInOrder.{keys-tables}
use Rattle.x86_64_dump.specs.Loaded.{frames_of}
use Rattle.x86_64_dump.specs.Tables.{is_among, is_in_levels, words_in_frames}
use Rattle.x86_64_dump.proofs.Closed.{none_either}
use Rattle.x86_64_dump.specs.private.FrameNumbers.{has_number, words_numbered, AreHeldBy, AreFrameNumbers, HoldsFor}

-- ---- numbers

-- frames are equal if and only if their numbers are
pub same_number : (f g : ℕ) → is_frame f ≡ true → is_frame g ≡ true → (f / 4096 == g / 4096) ≡ (f == g)
same_number f g a b = ⊎_elim
    (λ same. ap (λ n. f / 4096 == n / 4096) (sym same) ∙ eq-eqb (f / 4096) (f / 4096) refl ∙ sym (eq-eqb f g same))
    (λ other. ne_eqb (f / 4096) (g / 4096) (λ same. other (same_frame f g a b same)) ∙ sym (ne_eqb f g other))
    (cases_eq f g)

-- one more number
number_added : (numbers : List ℕ) (f g : ℕ) → is_frame f ≡ true → g % 4096 ≡ 0 → g < 2 ^ 52 → has_number (numbers ++ g / 4096 ∷ []) f ≡ (has_number numbers f || (f == g))
number_added numbers f g is aligned below =
    list_any-append (λ n. f / 4096 == n) numbers (g / 4096 ∷ [])
    ∙ ap (λ b. has_number numbers f || b) (or-false (f / 4096 == g / 4096) ∙ same_number f g is (eq-eqb (address g) g (address-multiple g aligned below)))

pub number_more : (numbers old frames : List ℕ) (i g : ℕ) → i < length frames → g ≡ get_or frames i g → g % 4096 ≡ 0 → g < 2 ^ 52
    → ((f : ℕ) → is_frame f ≡ true → has_number numbers f ≡ (has_number old f || is_among (take i frames) f))
    → (f : ℕ) → is_frame f ≡ true → has_number (numbers ++ g / 4096 ∷ []) f ≡ (has_number old f || is_among (take (i + 1) frames) f)
number_more numbers old frames i g within at aligned below so_far f is =
    number_added numbers f g is aligned below
    ∙ ap (λ b. b || (f == g)) (so_far f is)
    ∙ or_assoc (has_number old f) (is_among (take i frames) f) (f == g)
    ∙ ap (λ h. has_number old f || (is_among (take i frames) f || (f == h))) at
    ∙ ap (λ b. has_number old f || b) (sym (list_any_more (λ h. f == h) frames i g within))

-- all levels
pub all_numbers : {A : Type 0} (levels : List (Vec ℕ A)) (f : ℕ) → list_any (λ level. is_among level.items f) levels ≡ is_in_levels (frames_of levels) f
all_numbers [] f = refl
all_numbers (level ∷ levels) f = ap (λ b. is_among level.items f || b) (all_numbers levels f)

list_any-dedup_from : (p : ℕ → Bool) (k : ℕ) (xs : List ℕ) → list_any p (dedup_from (λ a b. a == b) k xs) ≡ (p k || list_any p xs)
list_any-dedup_from p k [] = refl
list_any-dedup_from p k (x ∷ xs) = elim (x == k) as (λ b. (x == k) ≡ b → list_any p (cond b (dedup_from (λ a b. a == b) k xs) (k ∷ dedup_from (λ a b. a == b) x xs)) ≡ (p k || (p x || list_any p xs))) [
  | true ↦ λ is. list_any-dedup_from p k xs ∙ twice (p k) (list_any p xs) ∙ ap (λ y. p k || (p y || list_any p xs)) (sym (eqb-true x k is))
  | false ↦ λ _. ap (λ b. p k || b) (list_any-dedup_from p x xs)
] refl
  where
    twice : (a b : Bool) → (a || b) ≡ (a || (a || b))
    twice true b = refl
    twice false b = refl

pub list_any-dedup : (p : ℕ → Bool) (xs : List ℕ) → list_any p (dedup (λ a b. a == b) xs) ≡ list_any p xs
list_any-dedup p [] = refl
list_any-dedup p (x ∷ xs) = list_any-dedup_from p x xs

-- the frame of a number
pub number_there : (numbers : List ℕ) (i d : ℕ) → i < length numbers → AreFrameNumbers numbers → (is_frame (get_or numbers i d * 4096) ≡ true) × (has_number numbers (get_or numbers i d * 4096) ≡ true)
number_there numbers i d within below =
    let n = get_or numbers i d in (
      eq-eqb (address (n * 4096)) (n * 4096) (address-multiple (n * 4096) (omega arith) (below i d within)),
      list_any_at (λ m. n * 4096 / 4096 == m) numbers i d within (eq-eqb (n * 4096 / 4096) n (omega arith)),
    )

-- what is true of the frames of some levels is true of those of the same numbers
pub all_there : (has : ℕ → Bool) (numbers : List ℕ) (levels : List (List ℕ)) → AreFrameNumbers numbers → ((f : ℕ) → is_frame f ≡ true → has_number numbers f ≡ is_in_levels levels f)
    → ((f : ℕ) → is_in_levels levels f ≡ true → has f ≡ true) → AreHeldBy has numbers
all_there has numbers levels below same there i d within =
    let number = number_there numbers i d within below in
    there (get_or numbers i d * 4096) (sym (same (get_or numbers i d * 4096) number.0) ∙ number.1)

-- ---- memories

-- one more place in front of others
one_more : (W : ℕ → Option (List ℕ)) (n : ℕ) (ns : List ℕ) (t : List ℕ) (others : Option (List ℕ)) (place : ℕ) → Some t ≡ W n → others ≡ cond (list_any (λ n. place == n) ns) (W place) None
    → cond (eq_by_cmp nat_cmp place n) (Some t) others ≡ cond ((place == n) || list_any (λ n. place == n) ns) (W place) None
one_more W n ns t others place same rest = ⊎_elim here elsewhere (cases_eq place n)
  where
    here : place ≡ n → cond (eq_by_cmp nat_cmp place n) (Some t) others ≡ cond ((place == n) || list_any (λ n. place == n) ns) (W place) None
    here is =
        ap (λ m. cond (eq_by_cmp nat_cmp place m) (Some t) others) (sym is)
        ∙ ap (λ b. cond b (Some t) others) (same_key place)
        ∙ same ∙ ap W (sym is)
        ∙ sym (ap (λ b. cond (b || list_any (λ n. place == n) ns) (W place) None) (eq-eqb place n is))

    elsewhere : place ≢ n → cond (eq_by_cmp nat_cmp place n) (Some t) others ≡ cond ((place == n) || list_any (λ n. place == n) ns) (W place) None
    elsewhere other =
        ap (λ b. cond b (Some t) others) (other_key place n other)
        ∙ rest
        ∙ sym (ap (λ b. cond (b || list_any (λ n. place == n) ns) (W place) None) (ne_eqb place n other))

-- the tables at places, one for each
pub tables_held : (W : ℕ → Option (List ℕ)) (numbers : List ℕ) (tables : List (List ℕ)) → map Some tables ≡ map W numbers → HoldsFor numbers W (tables_at numbers tables)
tables_held W [] [] same place = get-empty nat_cmp place
tables_held W [] (t ∷ ts) same place = get-empty nat_cmp place
tables_held W (n ∷ ns) [] same place = let never : length (map W (n ∷ ns)) ≡ 0 = sym (ap length same) in absurd (omega (arith, never))
tables_held W (n ∷ ns) (t ∷ ts) same place =
    get-insert nat_cmp_total (tables_at ns ts) n t place
    ∙ one_more W n ns t (get (tables_at ns ts) place) place (ap (λ os. get_or os 0 None) same) (tables_held W ns ts (ap (drop 1) same) place)

-- the places of a memory for numbers of frames are such numbers
pub places_below : (numbers : List ℕ) (tables : ℕ → Option (List ℕ)) (memory : Memory) → AreFrameNumbers numbers → HoldsFor numbers tables memory
    → (place : ℕ) → IsSome (get memory place) → place * 4096 < 2 ^ 52
places_below numbers tables memory are held place there = by (list_any (λ n. place == n) numbers) refl
  where
    by : (b : Bool) → list_any (λ n. place == n) numbers ≡ b → place * 4096 < 2 ^ 52
    by true is =
        let found = Any-from_list_any (λ n. place == n) numbers is in
        let same : place ≡ found.1 = eqb-true place found.1 found.4 in
        let P : ℕ → Type 0 = λ n. n * 4096 < 2 ^ 52 in
        subst P (found.3 ∙ sym same) (are found.0 found.1 found.2)
    by false not = let never : false ≡ true = sym (ap is_some (held place ∙ ap (λ b. cond b (tables place) None) not)) ∙ there in cc

-- a memory has as many places as there are numbers, which increase
pub places_counted : (numbers : List ℕ) (tables : List (List ℕ)) → IsStrictlyIncreasing numbers → length tables ≡ length numbers → len (tables_at numbers tables) ≡ length numbers
places_counted numbers tables up same = sym (length_keys (tables_at numbers tables)) ∙ ap length (keys-tables numbers tables up same)

-- the memory for all numbers holds the words of their frames
pub words_filled : (W : Words) (numbers : List ℕ) (memory : Memory) (levels : List (List ℕ)) → ((f : ℕ) → is_frame f ≡ false → W f ≡ None)
    → ((f : ℕ) → is_frame f ≡ true → has_number numbers f ≡ is_in_levels levels f) → HoldsFor numbers (words_numbered W) memory → words_of memory identity_places ≡ words_in_frames levels W
words_filled W numbers memory levels only same held = λ k f. at f k
  where
    frame : (f : ℕ) → is_frame f ≡ true → get memory (f / 4096) ≡ cond (is_in_levels levels f) (W f) None
    frame f is =
        let whole : f / 4096 * 4096 ≡ f = omega (arith, address_aligned f, eqb-true (address f) f is) in
        held (f / 4096) ∙ ap₂ (λ b g. cond b (W g) None) (same f is) whole

    at : (f : ℕ) → words_of memory identity_places f ≡ words_in_frames levels W f
    at f = elim (is_frame f) as (λ b. is_frame f ≡ b → cond b (get memory (f / 4096)) None ≡ cond (is_in_levels levels f) (W f) None) [
      | true ↦ λ is. frame f is
      | false ↦ λ no. sym (ap (λ o. cond (is_in_levels levels f) o None) (only f no) ∙ none_either (is_in_levels levels f))
    ] refl

-- the first number from an index on
pub number_from : (numbers : List ℕ) (i : ℕ) → slice_index (take (length numbers - i) (drop i numbers)) 0 ≡ get_or numbers i 0
number_from numbers i =
    let same : i + 0 ≡ i = omega arith in
    ap (λ ns. slice_index ns 0) (take_rest numbers i) ∙ get_or-drop i numbers 0 0 ∙ ap (λ n. get_or numbers n 0) same
