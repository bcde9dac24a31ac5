-- In a valid hierarchy `translate` names the mapping of each position that has one.
use Rattle.std.proofs.Common.{◌≡◌, ◌<◌, ◌≤◌, ◌+◌, ◌-◌, ◌%◌, ◌&&◌, ℕ, zero, suc, nat_le, nat_lt, not, true, false, Option, None, List, [], ◌∷◌, ◌++◌, length, take, Some, option_and_then, option_map, refl, sym, ap, ◌∙◌, subst, arith}
use Rattle.std.proofs.lemmas.Bool.{and_from, and_parts, and_right, cond-false, cond-true, leb-true, ltb-true, not-true, true≢false}
use Rattle.std.proofs.lemmas.Nat.{mod-mul-add}
use Rattle.x86_64_model.specs.Entry.{present, huge, used, address, flags}
use Rattle.x86_64_model.specs.Memory.{Words}
use Rattle.x86_64_model.specs.PageWalk.{read, page_start}
use Rattle.x86_64_model.specs.Path.{level_of, path_at, span_start, span_size}
use Rattle.x86_64_model.specs.Position.{index, span, page_path}
use Rattle.x86_64_model.specs.Translation.{Translated, NotMapped, Mapped, translate_on, translate}
use Rattle.x86_64_model.specs.Window.{entry_at}
use Rattle.x86_64_model.specs.Mappings.{has_position, is_leaf, last_word, maps_page, mapping_of, words_along}
use Rattle.x86_64_model.specs.Laws.Mappings.{TranslateNamesMappings, WordsOfWalksSayMappings}
use Rattle.x86_64_model.proofs.Lemmas.Entries.Bits.{used_present}
use Rattle.x86_64_model.proofs.Lemmas.Entries.Words.{address_aligned}
use Rattle.x86_64_model.proofs.Lemmas.Maps.Leaves.{rounded}
use Rattle.x86_64_model.proofs.Lemmas.Paths.Spans.{digits}
use Rattle.x86_64_model.proofs.Lemmas.Walks.Agrees.{reads}
use Rattle.x86_64_model.proofs.Lemmas.Walks.Walked.{Reads, index_small, next, one_more, read_there}
use Rattle.x86_64_model.proofs.Lemmas.Mappings.EntriesAlong.{low_no_leaf}
use Rattle.x86_64_model.proofs.Lemmas.Mappings.Found.{huge_page}
use Rattle.x86_64_model.proofs.Lemmas.Mappings.Said.{leaf_is}

-- ---- words along a path

from_option_map : {X Y : Type 0} (f : X → Y) (o : Option X) (y : Y) → option_map f o ≡ Some y → (x : X) × (o ≡ Some x) × (f x ≡ y)
from_option_map f None y h = let n : None ≡ Some y = h in cc
from_option_map f (Some x) y h = (x, refl, let s : Some (f x) ≡ Some y = h in cc)

from_and_then : {X Y : Type 0} (f : X → Option Y) (o : Option X) (y : Y) → option_and_then f o ≡ Some y → (x : X) × (o ≡ Some x) × (f x ≡ Some y)
from_and_then f None y h = let n : None ≡ Some y = h in cc
from_and_then f (Some x) y h = (x, refl, h)

words_length : (T : Words) (f : ℕ) (q words : List ℕ) → words_along T f q ≡ Some words → length words ≡ length q
unfolding words_along
words_length T f [] words h = let s : Some [] ≡ Some words = h in ap length (let e : words ≡ [] = cc in e)
words_length T f (i ∷ q) words h =
    let first = from_and_then (λ e. option_map (λ below. e ∷ below) (words_along T (address e) q)) (read T f i) words h in
    let more = from_option_map (λ below. first.0 ∷ below) (words_along T (address first.0) q) words first.2 in
    let same = words_length T (address first.0) q more.0 more.1 in
    ap length (sym more.2) ∙ omega (arith, same)

-- ---- what `translate` makes of the words of a leaf

-- the answer at a position by an entry of a level
abbrev answer : (p level entry : ℕ) → Translated
answer p level e = Mapped (span level) (page_start level e) (p % span level) (flags e)

-- a word that is a leaf's last
last : (E : List ℕ → ℕ) (p n : ℕ) (q : List ℕ) → is_leaf (suc n) (E (q ++ index (suc n) p ∷ []) ∷ []) ≡ true → translate_on E p (suc n) q ≡ answer p (suc n) (E (q ++ index (suc n) p ∷ []))
unfolding is_leaf translate_on
last E p zero q h = let e = E (q ++ index 1 p ∷ []) in
    cond-true (used e) (Mapped (span 1) (address e) (p % span 1) (flags e)) NotMapped (used_present e (and_parts (present e) (maps_page 1 e) h).0)
    ∙ ap (λ a. Mapped (span 1) a (p % span 1) (flags e)) (sym (rounded (address e) 4096 (address_aligned e)))
last E p (suc n) q h = let e = E (q ++ index (suc (suc n)) p ∷ []) in
    let parts = and_parts (present e) (maps_page (suc (suc n)) e) h in
    let page = and_parts (huge e) (nat_le (suc (suc n)) 3) (sym (huge_page n e) ∙ parts.1) in
    cond-true (present e) _ NotMapped parts.0 ∙ cond-true (nat_le (suc (suc n)) 3 && huge e) _ _ (and_from (nat_le (suc (suc n)) 3) (huge e) page.1 page.0)

-- a word that is none of a leaf's last
inner : (E : List ℕ → ℕ) (p n : ℕ) (q : List ℕ) → present (E (q ++ index (suc (suc n)) p ∷ [])) ≡ true → huge (E (q ++ index (suc (suc n)) p ∷ [])) ≡ false
    → translate_on E p (suc (suc n)) q ≡ translate_on E p (suc n) (q ++ index (suc (suc n)) p ∷ [])
unfolding translate_on
inner E p n q there table = let e = E (q ++ index (suc (suc n)) p ∷ []) in
    cond-true (present e) _ NotMapped there ∙ cond-false (nat_le (suc (suc n)) 3 && huge e) _ _ (and_right (nat_le (suc (suc n)) 3) (huge e) table)

no_words : {X : Type 0} (f level : ℕ) (words : List ℕ) → Some [] ≡ Some words → is_leaf level words ≡ true → X
unfolding is_leaf
no_words f level words is leaf = let none : [] ≡ words = (let s : Some [] ≡ Some words = is in cc) in absurd (true≢false (sym leaf ∙ ap (is_leaf level) (sym none)))

module _ (L : ℕ) (T : Words) (root : ℕ) (E : List ℕ → ℕ) (reads : Reads L T root E) (p : ℕ) where
  -- what is read at the path so far is what a frame's table holds
  abbrev Leads : (q : List ℕ) (f : ℕ) → Type 0
  Leads q f = (j : ℕ) → j < 512 → read T f j ≡ Some (E (q ++ j ∷ []))

  abbrev Named : (level k : ℕ) (q : List ℕ) (f : ℕ) (words : List ℕ) → Type 0
  Named level k q f words = length q + level ≡ L → Leads q f → words_along T f (take k (page_path level p)) ≡ Some words → is_leaf level words ≡ true
      → translate_on E p level q ≡ answer p (level_of level (take k (page_path level p))) (last_word words)

  -- from the entry that is read first, and the words below it
  below_named : (n k : ℕ) (q : List ℕ) → length q + suc n ≡ L → (below : List ℕ) → ((q : List ℕ) (f : ℕ) → Named n k q f below)
      → words_along T (address (E (q ++ index (suc n) p ∷ []))) (take k (page_path n p)) ≡ Some below → is_leaf (suc n) (E (q ++ index (suc n) p ∷ []) ∷ below) ≡ true
      → translate_on E p (suc n) q ≡ answer p (level_of (suc n) (index (suc n) p ∷ take k (page_path n p))) (last_word (E (q ++ index (suc n) p ∷ []) ∷ below))
  unfolding is_leaf
  below_named n k q l [] deeper is leaf =
      let none = words_length T _ (take k (page_path n p)) [] is in
      let same : suc n ≡ level_of (suc n) (index (suc n) p ∷ take k (page_path n p)) = omega (arith, none) in
      last E p n q leaf ∙ ap (λ level. answer p level (E (q ++ index (suc n) p ∷ []))) same
  below_named zero k q l (g ∷ below) deeper is leaf = absurd (true≢false (sym (and_parts _ (is_leaf 0 (g ∷ below)) leaf).1 ∙ low_no_leaf (g ∷ below)))
  below_named (suc n) k q l (g ∷ below) deeper is leaf =
      let i = index (suc (suc n)) p in let e = E (q ++ i ∷ []) in
      let parts = and_parts (present e && not (huge e)) (is_leaf (suc (suc n) - 1) (g ∷ below)) leaf in
      let first = and_parts (present e) (not (huge e)) parts.0 in
      let table = not-true (huge e) first.1 in
      let low : suc (suc n) - 1 ≡ suc n = omega arith in
      let same : level_of (suc n) (take k (page_path (suc n) p)) ≡ level_of (suc (suc n)) (i ∷ take k (page_path (suc n) p)) = omega arith in
      inner E p n q first.0 table
      ∙ deeper (q ++ i ∷ []) (address e) (omega (arith, one_more q i, l)) (λ j s. next L T root E reads (q ++ i ∷ []) j s (omega (arith, one_more q i, l)) first.0 table) is
      (ap (λ level. is_leaf level (g ∷ below)) (sym low) ∙ parts.1)
      ∙ ap (λ level. answer p level (last_word (g ∷ below))) same

  leaf_named : (level k : ℕ) (q : List ℕ) (f : ℕ) (words : List ℕ) → Named level k q f words
  unfolding words_along page_path
  leaf_named zero zero q f words l at is leaf = no_words f zero words is leaf
  leaf_named zero (suc k) q f words l at is leaf = no_words f zero words is leaf
  leaf_named (suc n) zero q f words l at is leaf = no_words f (suc n) words is leaf
  leaf_named (suc n) (suc k) q f words l at is leaf =
      let i = index (suc n) p in let e = E (q ++ i ∷ []) in let rest = take k (page_path n p) in
      let below = from_option_map (λ below. e ∷ below) (words_along T (address e) rest) words (
      sym (ap (option_and_then (λ e. option_map (λ below. e ∷ below) (words_along T (address e) rest))) (at i (index_small (suc n) p))) ∙ is) in
      subst (λ words. translate_on E p (suc n) q ≡ answer p (level_of (suc n) (i ∷ rest)) (last_word words)) below.2
      (below_named n k q l below.0 (λ q f. leaf_named n k q f below.0) below.1 (ap (is_leaf (suc n)) below.2 ∙ leaf))

-- ---- the mapping of the leaf

offset_is : (L : ℕ) (q words : List ℕ) (p : ℕ) → has_position p (mapping_of L q words) ≡ true → p % span_size L q ≡ p - span_start L q
offset_is L q words p has =
    let s = span_size L q in let start = span_start L q in
    let parts = and_parts (nat_le start p) (nat_lt p (start + s)) has in
    let from : start ≤ p = leb-true start p parts.0 in
    let to : p < start + s = ltb-true p (start + s) parts.1 in
    let sum : p ≡ start + (p - start) = omega (arith, from) in
    ap (λ n. n % s) sum ∙ mod-mul-add (digits 0 q) s (p - start) (omega (arith, from, to))

pub translate_names : WordsOfWalksSayMappings → TranslateNamesMappings
unfolding translate
translate_names says L T root M window valid m i p has =
    let said = says L T root m i p has in
    let q = path_at L said.0 p in let words = said.1 in
    let leaf = leaf_is L q words m said.2.leaf in
    let r = reads L T root M window valid in
    let named = leaf_named L T root (entry_at window M) r p L (L + 1 - said.0) [] root words (omega arith) (λ j s. read_there T root j s r.root_there ∙ ap Some (sym (r.first j))) said.2.walk leaf.0 in
    subst (λ m. has_position p m ≡ true → translate_on (entry_at window M) p L [] ≡ Mapped m.size m.frame (p - m.start) m.flags) leaf.1
    (λ has. named ∙ ap (λ o. Mapped (span_size L q) (page_start (level_of L q) (last_word words)) o (flags (last_word words))) (offset_is L q words p has)) has
