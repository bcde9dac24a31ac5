-- Which word of which frame a call on one entry changes.
use Rattle.std.proofs.Common.{◌≡◌, ◌≢◌, ◌⊎◌, inl, inr, ⊎_elim, ◌<◌, ◌≤◌, ℕ, ◌==◌, eq-eqb, true, false, cond, List, [], ◌∷◌, ◌++◌, length, get_or, Some, None, Option, nat_lt, refl, sym, ap, ◌∙◌, subst, ap₂}
use Rattle.std.proofs.lemmas.Bool.{cases_lt, cases_eq}
use Rattle.std.proofs.lemmas.List.{get_or_past}
use Rattle.x86_64_model.specs.Entry.{used}
use Rattle.x86_64_model.specs.Memory.{Words, word, word_in, set_word}
use Rattle.x86_64_model.specs.PathMap.{PathMap, entry, put, table_of, table_at}
use Rattle.x86_64_model.specs.Validity.{entry_in, Holds, IsValid}
use Rattle.x86_64_model.specs.Window.{Window, IsValidFor, SelfEntry, begins_with, outside_window}
use Rattle.x86_64_model.specs.Laws.Hierarchies.{MayBecome}
use Rattle.x86_64_model.specs.Path.{level_of}
use Rattle.x86_64_model.proofs.Lemmas.Paths.Puts.{by_last}
use Rattle.x86_64_model.proofs.Lemmas.Hierarchies.Held.{valid_after, table_at_last, word-set_frame, word-set_index}
use Rattle.x86_64_model.proofs.Lemmas.Hierarchies.Memories.{outside_set}
use Rattle.x86_64_model.proofs.Lemmas.Hierarchies.Changes.{may_be_marked, zero_not_used}
use Rattle.x86_64_model.proofs.Lemmas.Hierarchies.Trees.{tree_of_holds, used_last, none_or_some, some_is}
use Rattle.x86_64_model.proofs.Lemmas.Machines.Changes.{IsChange}

-- a path that isn't empty, by its last index
last_of : (q : List ℕ) → (q ≡ []) ⊎ ((p : List ℕ) × (i : ℕ) × (q ≡ p ++ i ∷ []))
last_of = by_last (λ q. (q ≡ []) ⊎ ((p : List ℕ) × (i : ℕ) × (q ≡ p ++ i ∷ []))) (inl refl) (λ q i h. inr (q, i, refl))

-- the word of the frame that the path before the last index leads to
pub record IsWord (L root : ℕ) (M : PathMap) (q : List ℕ) (frame i : ℕ) : Type 0 where
  pub above : List ℕ
  pub path : q ≡ above ++ i ∷ []
  pub leads : table_at L root M above ≡ Some frame
  pub small : i < 512

-- the word of a used entry, and what it holds
pub word_of_used : (L : ℕ) (T : Words) (root : ℕ) (M : PathMap) → Holds L T root M → (q : List ℕ) → used (entry M q) ≡ true → (f : ℕ) × (i : ℕ) × IsWord L root M q f i × (word T f i ≡ entry M q)
word_of_used L T root M holds q u = ⊎_elim
    (λ z. absurd (let t : false ≡ true = sym (ap used (ap (entry M) z ∙ holds.nothing_above) ∙ zero_not_used) ∙ u in cc))
    (λ l. let last = used_last L root M (tree_of_holds L T root M holds) l.0 l.1 (subst (λ q. used (entry M q) ≡ true) l.2 u) in
    let some = none_or_some _ last.1 in
    (some.0, l.1, record { above = l.0; path = l.2; leads = some.1; small = last.0 }, sym (ap (entry M) l.2 ∙ holds.entries l.0 l.1 ∙ ap (λ t. entry_in T t l.1) some.1)))
    (last_of q)

pub within_words : (T : Words) (f i : ℕ) (words : List ℕ) → T f ≡ Some words → used (word T f i) ≡ true → i < length words
unfolding word
within_words T f i words is u = ⊎_elim (λ l. l) (λ l. absurd (let t : false ≡ true = sym (ap used (past l) ∙ zero_not_used) ∙ u in cc)) (cases_lt i (length words))
  where
    past : length words ≤ i → cond (nat_lt i 512) (word_in (T f) i) 0 ≡ 0
    past l = ap (λ o. cond (nat_lt i 512) (word_in o i) 0) is ∙ elim (nat_lt i 512) as (λ b. cond b (get_or words i 0) 0 ≡ 0) [ true ↦ get_or_past words i 0 l | false ↦ refl ]

-- ---- a word outside the window, whose entry may become another one

module _ (window : Option Window) (T : Words) (root f i w : ℕ) (apart : (v : Window) → window ≡ Some v → f ≡ root → i ≢ v.index) where
  -- the path map sees the word as it is
  pub word_outside : word (outside_window window root T) f i ≡ word T f i
  word_outside = by window apart
    where
      by : (o : Option Window) → ((v : Window) → o ≡ Some v → f ≡ root → i ≢ v.index) → word (outside_window o root T) f i ≡ word T f i
      by None n = refl
      by (Some v) n = ⊎_elim (λ r. word-set_index T root v.index 0 f i (n v refl r)) (λ r. word-set_frame T root v.index 0 f i r) (cases_eq f root)

  -- and the self-entry stays
  pub self_after : SelfEntry T root window → SelfEntry (set_word T f i w) root window
  self_after = by window apart
    where
      by : (o : Option Window) → ((v : Window) → o ≡ Some v → f ≡ root → i ≢ v.index) → SelfEntry T root o → SelfEntry (set_word T f i w) root o
      by None n self = tt
      by (Some v) n self =
          let same : word (set_word T f i w) root v.index ≡ word T root v.index = ⊎_elim (λ r. word-set_index T f i w root v.index (λ e. n v refl r (sym e))) (λ r. word-set_frame T f i w root v.index (λ e. r (sym e))) (cases_eq f root) in
          record { is_word = self.is_word ∙ sym same; is_present = self.is_present; not_huge = self.not_huge; names_root = self.names_root }

module _ (L : ℕ) (window : Option Window) (T : Words) (root : ℕ) (M : PathMap) (valid : IsValidFor L window T root M) (p : List ℕ) (i f : ℕ)
    (leads : table_at L root M p ≡ Some f) (small : i < 512) (out : begins_with window (p ++ i ∷ []) ≡ false) where
  -- outside the window the word is not the self-entry
  pub not_self : (v : Window) → window ≡ Some v → f ≡ root → i ≢ v.index
  not_self v is at same =
      let top : p ≡ [] = valid.valid.own_frames p [] root (leads ∙ ap Some at) refl in
      let t : (i == v.index) ≡ false = sym (ap₂ (λ w p. begins_with w (p ++ i ∷ [])) is top) ∙ out in
      let u : (i == v.index) ≡ true = eq-eqb i v.index same in cc

  -- it is the entry at its path
  pub word_is_entry : word T f i ≡ entry M (p ++ i ∷ [])
  word_is_entry = sym (word_outside window T root f i 0 not_self) ∙ sym (valid.valid.holds.entries p i ∙ ap (λ t. entry_in (outside_window window root T) t i) leads)

  pub set_written : (w : ℕ) → used (entry M (p ++ i ∷ [])) ≡ true → MayBecome L (outside_window window root T) root M p i w → IsValidFor L window (set_word T f i w) root (put M (p ++ i ∷ []) w)
  set_written w u may =
      let U = outside_window window root T in
      let there = some_is (U f) (valid.valid.holds.in_memory p f leads) in
      let within = within_words U f i there.0 there.1 (ap used (word_outside window T root f i w not_self ∙ word_is_entry) ∙ u) in
      record {
        valid = subst (λ V. IsValid L V root (put M (p ++ i ∷ []) w)) (sym (outside_set window root T f i w not_self)) (valid_after L U root M p i w f there.0 valid.valid leads there.1 within small may);
        self = self_after window T root f i w not_self valid.self;
      }

-- ---- what a call on one entry writes

-- one word of one frame changes, and the words hold the path map with the entry changed
pub record Written (L : ℕ) (window : Option Window) (T : Words) (root : ℕ) (M : PathMap) (q : List ℕ) (w : ℕ) : Type 0 where
  pub frame : ℕ
  pub index : ℕ
  pub place : IsWord L root M q frame index
  pub before : word T frame index ≡ entry M q
  pub after : IsValidFor L window (set_word T frame index w) root (put M q w)

pub change_written : (L : ℕ) (window : Option Window) (T : Words) (root : ℕ) (M : PathMap) (q : List ℕ) (w : ℕ) → IsValidFor L window T root M → IsChange L window M q w → Written L window T root M q w
change_written L window T root M q w valid c =
    let at = word_of_used L (outside_window window root T) root M valid.valid.holds q c.is_used in
    let place : IsWord L root M q at.0 at.1 = at.2 in
    let p = place.above in let i = at.1 in let e = place.path in
    let out : begins_with window (p ++ i ∷ []) ≡ false = ap (begins_with window) (sym e) ∙ c.outside in
    let may : MayBecome L (outside_window window root T) root M p i w = may_be_marked L (outside_window window root T) root M valid.valid p i w
    (subst (λ r. table_of L r w ≡ table_of L r (entry M r)) e c.same_table ∙ sym (table_at_last L root M p i)) (λ up. c.low (subst (λ r. 3 < level_of L r) (sym e) up)) in
    record {
      frame = at.0;
      index = i;
      place = place;
      before = word_is_entry L window T root M valid p i at.0 place.leads place.small out ∙ ap (entry M) (sym e);
      after = subst (λ r. IsValidFor L window (set_word T at.0 i w) root (put M r w)) (sym e)
          (set_written L window T root M valid p i at.0 place.leads place.small out w (ap (λ r. used (entry M r)) (sym e) ∙ c.is_used) may);
    }
