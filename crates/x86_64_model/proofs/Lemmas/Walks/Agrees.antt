-- In a valid hierarchy the entries that are read are the words, and `translate` agrees with the walk.
use Rattle.std.proofs.Common.{zero, suc, ◌≡◌, ◌≢◌, ◌<◌, ◌+◌, ℕ, ◌==◌, ◌&&◌, Bool, true, false, cond, List, [], ◌∷◌, ◌++◌, length, nat_le, Some, None, Option, IsSome, option_map, refl, sym, ap, ap₂, ◌∙◌, subst, arith, eqb-true, lt-ltb}
use Rattle.std.proofs.lemmas.Bool.{eqb-false, leb-false}
use Rattle.x86_64_model.specs.Entry.{used, present, huge, address, flags, names_table}
use Rattle.x86_64_model.specs.Memory.{Words, word, set_word}
use Rattle.x86_64_model.specs.PathMap.{PathMap, entry, table_of}
use Rattle.x86_64_model.specs.Path.{level_of}
use Rattle.x86_64_model.specs.Validity.{entry_in, Holds, IsValid}
use Rattle.x86_64_model.specs.Window.{Window, windowed, entry_at, IsSelfEntry, IsValidFor}
use Rattle.x86_64_model.proofs.Lemmas.Hierarchies.Held.{word-set_frame, word-set_index}
use Rattle.x86_64_model.proofs.Lemmas.Hierarchies.Unset.{is_some-unset}
use Rattle.x86_64_model.specs.Position.{index}
use Rattle.x86_64_model.specs.PageWalk.{Walked, arrives, page_walk}
use Rattle.x86_64_model.specs.Translation.{Translated, NotMapped, Mapped, translate_on, translate, present_to, Agrees}
use Rattle.x86_64_model.proofs.Lemmas.Entries.Bits.{present_flags, used_present}
use Rattle.x86_64_model.proofs.Lemmas.Walks.Walked.{Reads, walked, one_more, page_walk_is}

-- ---- `translate` beside the walk

abbrev pub to : Option Walked → Option ℕ
to = option_map (λ w. w.address)

pub leaf : (e size a o : ℕ) (w u : Bool) → to (cond (present e) (arrives (a + o) w u) None) ≡ present_to (cond (used e) (Mapped size a o (flags e)) NotMapped)
leaf e size a o w u = elim (present e) as (λ b. present e ≡ b → to (cond b (arrives (a + o) w u) None) ≡ present_to (cond (used e) (Mapped size a o (flags e)) NotMapped)) [
  | true ↦ λ h. sym (ap (λ u. present_to (cond u (Mapped size a o (flags e)) NotMapped)) (used_present e h) ∙ ap (λ b. cond b (Some (a + o)) None) (present_flags e ∙ h))
  | false ↦ λ h. sym (elim (used e) as (λ u. present_to (cond u (Mapped size a o (flags e)) NotMapped) ≡ None) [ true ↦ ap (λ b. cond b (Some (a + o)) None) (present_flags e ∙ h) | false ↦ refl ])
] refl

pub inner : (e size a o : ℕ) (b w u : Bool) (walk : Option Walked) (rest : Translated) → (b ≡ false → huge e ≡ false) → to walk ≡ present_to rest
    → to (cond (present e) (cond (huge e) (cond b (arrives (a + o) w u) None) walk) None) ≡ present_to (cond (present e) (cond (b && huge e) (Mapped size a o (flags e)) rest) NotMapped)
inner e size a o b w u walk rest low same = by (present e) (huge e) b refl low
  where
    by : (h g b : Bool) → present e ≡ h → (b ≡ false → g ≡ false) → to (cond h (cond g (cond b (arrives (a + o) w u) None) walk) None) ≡ present_to (cond h (cond (b && g) (Mapped size a o (flags e)) rest) NotMapped)
    by true true true h l = sym (ap (λ b. cond b (Some (a + o)) None) (present_flags e ∙ h))
    by true true false h l = absurd (let t : true ≡ false = l refl in cc)
    by true false true h l = same
    by true false false h l = same
    by false g b h l = refl

pub agree : (L : ℕ) (E : List ℕ → ℕ) → ((q : List ℕ) → 3 < level_of L q → huge (E q) ≡ false) → (p level : ℕ) (q : List ℕ) (w u : Bool) → length q + level ≡ L → to (walked E p level q w u) ≡ present_to (translate_on E p level q)
unfolding translate_on
agree L E low p zero q w u l = refl
agree L E low p (suc zero) q w u l = leaf (E (q ++ index 1 p ∷ [])) _ _ _ _ _
agree L E low p (suc (suc n)) q w u l = let i = index (suc (suc n)) p in
    inner (E (q ++ i ∷ [])) _ _ _ (nat_le (suc (suc n)) 3) _ _ _ _
    (λ high. low (q ++ i ∷ []) (omega (arith, leb-false (suc (suc n)) 3 high, one_more q i, l)))
    (agree L E low p (suc n) (q ++ i ∷ []) _ _ (omega (arith, one_more q i, l)))

pub named : (L : ℕ) (q : List ℕ) (e : ℕ) → names_table e ≡ true → length q < L → table_of L q e ≡ Some (address e)
unfolding table_of
named L q e h l = ap₂ (λ n b. cond (n && b) (Some (address e)) None) h (lt-ltb _ _ l)

pub zero_names_none : {X : Type 0} → names_table 0 ≡ true → X
unfolding used
zero_names_none h = cc

module _ (L : ℕ) (T : Words) (root : ℕ) (M : PathMap) (holds : Holds L T root M) where
  pub below_table : (q : List ℕ) (j : ℕ) → names_table (entry M q) ≡ true → length q < L → entry M (q ++ j ∷ []) ≡ word T (address (entry M q)) j
  below_table [] j h l = zero_names_none (ap names_table (sym holds.nothing_above) ∙ h)
  below_table (i ∷ q) j h l = holds.entries (i ∷ q) j ∙ ap (λ t. entry_in T t j) (named L (i ∷ q) (entry M (i ∷ q)) h l)

  pub table_there : (q : List ℕ) → names_table (entry M q) ≡ true → length q < L → IsSome (T (address (entry M q)))
  table_there [] h l = zero_names_none (ap names_table (sym holds.nothing_above) ∙ h)
  table_there (i ∷ q) h l = holds.in_memory (i ∷ q) _ (named L (i ∷ q) (entry M (i ∷ q)) h l)

pub direct_reads : (L : ℕ) (T : Words) (root : ℕ) (M : PathMap) → IsValid L T root M → Reads L T root (entry_at None M)
unfolding entry_at
direct_reads L T root M valid = record {
  first = λ i. valid.holds.entries [] i;
  next = below_table L T root M valid.holds;
  root_there = valid.holds.in_memory [] root refl;
  there = table_there L T root M valid.holds;
  none_huge = valid.none_huge;
}

module _ (L : ℕ) (T : Words) (root : ℕ) (M : PathMap) (w : Window) (valid : IsValid L (set_word T root w.index 0) root M) (self : IsSelfEntry T root w) where
  pub not_root : (i : ℕ) (q : List ℕ) → names_table (entry M (i ∷ q)) ≡ true → length (i ∷ q) < L → address (entry M (i ∷ q)) ≢ root
  not_root i q h l e = let k : i ∷ q ≡ [] = valid.own_frames (i ∷ q) [] root (named L (i ∷ q) (entry M (i ∷ q)) h l ∙ ap Some e) refl in cc

  pub plain : (i : ℕ) (q : List ℕ) (j : ℕ) → names_table (entry M (i ∷ q)) ≡ true → length (i ∷ q) < L → entry M ((i ∷ q) ++ j ∷ []) ≡ word T (address (entry M (i ∷ q))) j
  plain i q j h l = below_table L _ root M valid.holds (i ∷ q) j h l ∙ word-set_frame T root w.index 0 _ j (not_root i q h l)

  pub first : (i : ℕ) → windowed w M (i ∷ []) ≡ word T root i
  first i = elim (i == w.index) as (λ b. (i == w.index) ≡ b → cond b w.self_entry (entry M (i ∷ [])) ≡ word T root i) [
    | true ↦ λ e. self.is_word ∙ ap (word T root) (sym (eqb-true i w.index e))
    | false ↦ λ e. valid.holds.entries [] i ∙ word-set_index T root w.index 0 root i (eqb-false i w.index e)
  ] refl

  pub below : (q : List ℕ) (j : ℕ) → names_table (windowed w M q) ≡ true → length q < L → windowed w M (q ++ j ∷ []) ≡ word T (address (windowed w M q)) j
  below [] j h l = zero_names_none h
  below (i ∷ []) j h l = elim (i == w.index) as (λ b. names_table (cond b w.self_entry (entry M (i ∷ []))) ≡ true → cond b (windowed w M (j ∷ [])) (entry M (i ∷ j ∷ [])) ≡ word T (address (cond b w.self_entry (entry M (i ∷ [])))) j) [
    | true ↦ λ h. first j ∙ ap (λ f. word T f j) (sym self.names_root)
    | false ↦ λ h. plain i [] j h l
  ] h
  below (i ∷ k ∷ q) j h l = elim (i == w.index) as (λ b. names_table (cond b (windowed w M (k ∷ q)) (entry M (i ∷ k ∷ q))) ≡ true → cond b (windowed w M (k ∷ q ++ j ∷ [])) (entry M (i ∷ k ∷ (q ++ j ∷ []))) ≡ word T (address (cond b (windowed w M (k ∷ q)) (entry M (i ∷ k ∷ q)))) j) [
    | true ↦ λ h. below (k ∷ q) j h (omega arith)
    | false ↦ λ h. plain i (k ∷ q) j h l
  ] h

  pub there : (q : List ℕ) → names_table (windowed w M q) ≡ true → length q < L → IsSome (T (address (windowed w M q)))
  there [] h l = zero_names_none h
  there (i ∷ []) h l = elim (i == w.index) as (λ b. names_table (cond b w.self_entry (entry M (i ∷ []))) ≡ true → IsSome (T (address (cond b w.self_entry (entry M (i ∷ [])))))) [
    | true ↦ λ h. subst (λ f. IsSome (T f)) (sym self.names_root) (is_some-unset T root w.index 0 root (valid.holds.in_memory [] root refl))
    | false ↦ λ h. is_some-unset T root w.index 0 _ (table_there L _ root M valid.holds (i ∷ []) h l)
  ] h
  there (i ∷ k ∷ q) h l = elim (i == w.index) as (λ b. names_table (cond b (windowed w M (k ∷ q)) (entry M (i ∷ k ∷ q))) ≡ true → IsSome (T (address (cond b (windowed w M (k ∷ q)) (entry M (i ∷ k ∷ q)))))) [
    | true ↦ λ h. there (k ∷ q) h (omega arith)
    | false ↦ λ h. is_some-unset T root w.index 0 _ (table_there L _ root M valid.holds (i ∷ k ∷ q) h l)
  ] h

  pub low : (q : List ℕ) → 3 < level_of L q → huge (windowed w M q) ≡ false
  low [] h = ap huge (sym valid.holds.nothing_above) ∙ valid.none_huge [] h
  low (i ∷ []) h = elim (i == w.index) as (λ b. huge (cond b w.self_entry (entry M (i ∷ []))) ≡ false) [ true ↦ self.not_huge | false ↦ valid.none_huge (i ∷ []) h ]
  low (i ∷ j ∷ q) h = elim (i == w.index) as (λ b. huge (cond b (windowed w M (j ∷ q)) (entry M (i ∷ j ∷ q))) ≡ false) [ true ↦ low (j ∷ q) (omega arith) | false ↦ valid.none_huge (i ∷ j ∷ q) h ]

  pub window_reads : Reads L T root (entry_at (Some w) M)
  unfolding entry_at
  window_reads = record {
    first = first;
    next = below;
    root_there = is_some-unset T root w.index 0 root (valid.holds.in_memory [] root refl);
    there = there;
    none_huge = low;
  }

pub reads : (L : ℕ) (T : Words) (root : ℕ) (M : PathMap) (window : Option Window) → IsValidFor L window T root M → Reads L T root (entry_at window M)
reads L T root M None valid = direct_reads L T root M valid.valid
reads L T root M (Some w) valid = window_reads L T root M w valid.valid valid.self

-- in every valid hierarchy of L levels and at every address, in the window too
pub translate_agrees : (L : ℕ) (T : Words) (root : ℕ) (M : PathMap) (window : Option Window) → IsValidFor L window T root M → (p : ℕ) → Agrees (translate L (entry_at window M) p) (page_walk L T root p)
unfolding translate
translate_agrees L T root M window valid p = let r = reads L T root M window valid in
    ap to (page_walk_is L T root (entry_at window M) r p) ∙ agree L (entry_at window M) r.none_huge p L [] true true (omega arith)
