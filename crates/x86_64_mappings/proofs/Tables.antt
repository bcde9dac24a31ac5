-- The mappings of a table are those by its words, one after the other. A word that names a table has the placed mappings of
-- that table.
use Rattle.std.proofs.Common.{zero, suc, ◌≡◌, ◌+◌, ◌-◌, ◌*◌, ◌<◌, ◌≤◌, ℕ, Bool, true, false, cond, List, [], ◌∷◌, ◌++◌, length, get_or, take, map, filter, flat_map, Option, Some, None, option_map, refl, sym, ap, ap₂, ◌∙◌, arith, append-nil, append_assoc, length-take, Bor, ◌/◌, ◌%◌}
use Rattle.std.specs.List.{range_with_len}
use Rattle.std.specs.Option.{option_copied}
use Rattle.std.proofs.Math.Nat.{add-mul}
use Rattle.std.proofs.Math.Seq.{take-suc}
use Rattle.std.proofs.lemmas.List.Elements.{filter-append}
use Rattle.x86_64_model.specs.Entry.{present, huge, address}
use Rattle.x86_64_model.specs.Memory.{Words}
use Rattle.x86_64_model.specs.PageWalk.{read}
use Rattle.x86_64_model.specs.Position.{span}
use Rattle.x86_64_model.specs.Path.{indices}
use Rattle.x86_64_model.specs.Mappings.{Rights, Mapping, maps_page, mappings_of, every_right, granted}
use Rattle.x86_64_model.specs.private.Found.{page_from, page_at}
use Rattle.x86_64_model.proofs.Lemmas.Mappings.Listed.{listed_by, list_and_then, listed_on, mappings_listed}
use Rattle.x86_64_tables.specs.declared.page_table.target.EntryTarget.TheVariants.{Nothing, Page, Table}
use Rattle.x86_64_mappings.specs.Wanted.{Asked, is_wanted, asked_mappings}
use Rattle.x86_64_mappings.specs.private.Placed.{placed}
use Rattle.x86_64_tables.specs.EntryTargets.{target_of}
use Rattle.x86_64_mappings.specs.private.Targets.{mappings_at, asked_by, asked_on}
use Rattle.x86_64_mappings.proofs.Placed.{flat_map-same, mappings_placed}

-- ---- by the words that are read

module _ (T : Words) where
  -- the mappings by a word
  by_leads : (n s : ℕ) (r : Rights) (e : ℕ) → listed_by s (suc n) r e (listed_on T n s (granted r e) (address e)) ≡ mappings_at T (suc n) s r e (target_of (suc n) e)
  by_leads n s r e = by (present e) (maps_page (suc n) e) (huge e)
    where
      table : listed_on T n s (granted r e) (address e) ≡ map (placed s (granted r e)) (mappings_of (suc n - 1) T (address e))
      table = mappings_placed T n s (granted r e) (address e)
          ∙ ap (λ k. map (placed s (granted r e)) (mappings_of k T (address e))) (let e : n ≡ suc n - 1 = omega arith in e)

      by : (b m h : Bool) → cond b (cond m (page_from s (suc n) r e ∷ []) (cond h [] (listed_on T n s (granted r e) (address e)))) []
          ≡ mappings_at T (suc n) s r e (cond b (cond m Page (cond h Nothing (Table (address e)))) Nothing)
      by false m h = refl
      by true true h = refl
      by true false true = refl
      by true false false = table

  -- the placed mappings of a frame's table
  pub mappings_read : (n s : ℕ) (r : Rights) (f : ℕ) → map (placed s r) (mappings_of (suc n) T f)
      ≡ flat_map (λ i. list_and_then (λ e. mappings_at T (suc n) (s + i * span (suc n)) r e (target_of (suc n) e)) (read T f i)) indices
  mappings_read n s r f = sym (mappings_placed T (suc n) s r f) ∙ flat_map-same _ _ (λ i. by (s + i * span (suc n)) (read T f i)) indices
    where
      by : (start : ℕ) (o : Option ℕ) → list_and_then (λ e. listed_by start (suc n) r e (listed_on T n start (granted r e) (address e))) o
          ≡ list_and_then (λ e. mappings_at T (suc n) start r e (target_of (suc n) e)) o
      by start None = refl
      by start (Some e) = by_leads n start r e

-- ---- the wanted mappings, by the words of the table

pub filter-placed : (wanted : Option ℕ) (s : ℕ) (r : Rights) (ms : List Mapping) → filter (is_wanted wanted) (map (placed s r) ms) ≡ map (placed s r) (filter (is_wanted wanted) ms)
filter-placed wanted s r [] = refl
filter-placed wanted s r (m ∷ ms) = ap (λ b. cond b (placed s r m ∷ filter (is_wanted wanted) (map (placed s r) ms)) (filter (is_wanted wanted) (map (placed s r) ms))) (same wanted)
    ∙ by (is_wanted wanted m) (filter (is_wanted wanted) (map (placed s r) ms)) (filter-placed wanted s r ms)
  where
    same : (wanted : Option ℕ) → is_wanted wanted (placed s r m) ≡ is_wanted wanted m
    same None = refl
    same (Some a) = refl

    by : (b : Bool) (rest : List Mapping) → rest ≡ map (placed s r) (filter (is_wanted wanted) ms)
        → cond b (placed s r m ∷ rest) rest ≡ map (placed s r) (cond b (m ∷ filter (is_wanted wanted) ms) (filter (is_wanted wanted) ms))
    by true rest e = ap (λ ms. placed s r m ∷ ms) e
    by false rest e = e

module _ (asked : Asked) (level s : ℕ) (r : Rights) where
  abbrev by_index : List ℕ → ℕ → List Mapping
  by_index all i = mappings_at asked.words level (s + i * span level) r (get_or all i 0) (target_of level (get_or all i 0))

  next : (i : ℕ) → s + (i + 1) * span level ≡ s + i * span level + span level
  next i = let e = add-mul i 1 (span level) in omega (arith, e)

  on_words : (all : List ℕ) (i : ℕ) (words : List ℕ) → ((k : ℕ) → get_or all (i + k) 0 ≡ get_or words k 0)
      → filter (is_wanted asked.wanted) (flat_map (by_index all) (range_with_len i (length words))) ≡ asked_on asked level (s + i * span level) r words
  on_words all i [] reads = refl
  on_words all i (e ∷ rest) reads =
      let first : get_or all i 0 ≡ e = ap (λ j. get_or all j 0) (let e : i ≡ i + 0 = omega arith in e) ∙ reads 0 in
      filter-append (is_wanted asked.wanted) (by_index all i) (flat_map (by_index all) (range_with_len (i + 1) (length rest)))
      ∙ ap₂ (λ ms ns. ms ++ ns)
      (ap (λ e. asked_by asked level (s + i * span level) r e) first)
      (on_words all (i + 1) rest (λ k. ap (λ j. get_or all j 0) (let e : i + 1 + k ≡ i + suc k = omega arith in e) ∙ reads (suc k))
      ∙ ap (λ s. asked_on asked level s r rest) (next i))

-- without a table there are no mappings
none_read : (T : Words) (f : ℕ) (k : ℕ → ℕ → List Mapping) → T f ≡ None → (is : List ℕ) → flat_map (λ i. list_and_then (k i) (read T f i)) is ≡ []
none_read T f k none [] = refl
none_read T f k none (i ∷ is) = ap₂ (λ ms ns. ms ++ ns) (ap (λ o. list_and_then (k i) (option_map (λ words. get_or words i 0) o)) none) (none_read T f k none is)

pub asked_none : (asked : Asked) (level f : ℕ) → asked.words f ≡ None → asked_mappings asked level f ≡ []
asked_none asked zero f none = ap (filter (is_wanted asked.wanted)) (mappings_listed zero asked.words f)
asked_none asked (suc n) f none = ap (filter (is_wanted asked.wanted)) (mappings_listed (suc n) asked.words f ∙ none_read asked.words f _ none indices)

indices_by : (n : ℕ) → n ≡ 512 → indices ≡ range_with_len 0 n
unfolding indices
indices_by n e = ap (range_with_len 0) (sym e)

-- the placed wanted mappings of a table
pub asked_table : (asked : Asked) (level s : ℕ) (r : Rights) (f : ℕ) (words : List ℕ) → 1 ≤ level → asked.words f ≡ Some words → length words ≡ 512
    → map (placed s r) (asked_mappings asked level f) ≡ asked_on asked level s r words
asked_table asked zero s r f words low there size = absurd (omega arith)
asked_table asked (suc n) s r f words low there size =
    sym (filter-placed asked.wanted s r (mappings_of (suc n) asked.words f))
    ∙ ap (filter (is_wanted asked.wanted)) (mappings_read asked.words n s r f
    ∙ flat_map-same _ (by_index asked (suc n) s r words) (λ i. ap (λ o. list_and_then (λ e. mappings_at asked.words (suc n) (s + i * span (suc n)) r e (target_of (suc n) e)) (option_map (λ words. get_or words i 0) o)) there) indices
    ∙ ap (flat_map (by_index asked (suc n) s r words)) (indices_by (length words) size))
    ∙ on_words asked (suc n) s r words 0 words (λ k. ap (λ j. get_or words j 0) (let e : 0 + k ≡ k = omega arith in e))
    ∙ ap (λ s. asked_on asked (suc n) s r words) (let e : s + 0 * span (suc n) ≡ s = omega arith in e)

-- ---- entry by entry

pub on-append : (asked : Asked) (level s : ℕ) (r : Rights) (front back : List ℕ) → asked_on asked level s r (front ++ back) ≡ asked_on asked level s r front ++ asked_on asked level (s + length front * span level) r back
on-append asked level s r [] back = ap (λ s. asked_on asked level s r back) (let e : s ≡ s + 0 * span level = omega arith in e)
on-append asked level s r (e ∷ front) back =
    let start : s + span level + length front * span level ≡ s + suc (length front) * span level = next_start s (length front) (span level) in
    ap (λ ms. asked_by asked level s r e ++ ms) (on-append asked level (s + span level) r front back ∙ ap (λ t. asked_on asked level (s + span level) r front ++ asked_on asked level t r back) start)
    ∙ sym (append_assoc (asked_by asked level s r e) (asked_on asked level (s + span level) r front) (asked_on asked level (s + suc (length front) * span level) r back))
  where
    next_start : (s n w : ℕ) → s + w + n * w ≡ s + suc n * w
    next_start s n w = omega arith

-- one entry more
pub on_more : (asked : Asked) (level s : ℕ) (r : Rights) (words : List ℕ) (i : ℕ) → i < length words
    → asked_on asked level s r (take (i + 1) words) ≡ asked_on asked level s r (take i words) ++ asked_by asked level (s + i * span level) r (get_or words i 0)
on_more asked level s r words i less =
    let front = take i words in let e = get_or words i 0 in
    let many : length front ≡ i = omega (arith, length-take i words, less) in
    ap (asked_on asked level s r) (ap (λ n. take n words) (let e : i + 1 ≡ suc i = omega arith in e) ∙ take-suc words i 0 less)
    ∙ on-append asked level s r front (e ∷ [])
    ∙ ap (λ ms. asked_on asked level s r front ++ ms) (append-nil (asked_by asked level (s + length front * span level) r e) ∙ ap (λ n. asked_by asked level (s + n * span level) r e) many)

-- ---- by what an entry leads to

pub by_nothing : (asked : Asked) (level s : ℕ) (r : Rights) (e : ℕ) → Nothing ≡ target_of level e → asked_by asked level s r e ≡ []
by_nothing asked level s r e is = ap (λ t. filter (is_wanted asked.wanted) (mappings_at asked.words level s r e t)) (sym is)

pub by_table : (asked : Asked) (level s : ℕ) (r : Rights) (e f : ℕ) → Table f ≡ target_of level e
    → asked_by asked level s r e ≡ map (placed s (granted r e)) (asked_mappings asked (level - 1) f)
by_table asked level s r e f is =
    ap (λ t. filter (is_wanted asked.wanted) (mappings_at asked.words level s r e t)) (sym is)
    ∙ filter-placed asked.wanted s (granted r e) (mappings_of (level - 1) asked.words f)

-- the mapping of a page, if it is wanted
pub by_page : (asked : Asked) (level s : ℕ) (r : Rights) (e : ℕ) (m : Mapping) → Page ≡ target_of level e → m ≡ page_at s level r e → s % span level ≡ 0
    → asked_by asked level s r e ≡ cond (is_wanted asked.wanted m) (m ∷ []) []
by_page asked level s r e m is at aligned =
    let start : s / span level * span level ≡ s = omega (arith, aligned) in
    let same : page_from s level r e ≡ m = ap (λ s. page_from s level r e) (sym start) ∙ sym at in
    ap (λ t. filter (is_wanted asked.wanted) (mappings_at asked.words level s r e t)) (sym is)
    ∙ ap (λ m. cond (is_wanted asked.wanted m) (m ∷ []) []) same

-- ---- the mappings of a table that isn't moved

placed_here : (ms : List Mapping) → map (placed 0 every_right) ms ≡ ms
placed_here [] = refl
placed_here (m ∷ ms) = ap₂ (λ m ms. m ∷ ms) (ap (λ s. record m { start = s }) (let e : 0 + m.start ≡ m.start = omega arith in e)) (placed_here ms)

pub asked_here : (asked : Asked) (level f : ℕ) → map (placed 0 every_right) (asked_mappings asked level f) ≡ asked_mappings asked level f
asked_here asked level f = placed_here (asked_mappings asked level f)

-- ---- tables as they are read

pub none_copied : {X : Type 0} (o : Option (Bor X)) → ((x : Bor X) → o ≡ Some x → ⊥) → option_copied o ≡ None
none_copied None not_some = refl
none_copied (Some x) not_some = absurd (not_some x refl)
