-- What words hold.
use Rattle.std.proofs.Common.{◌≡◌, ◌≢◌, ◌⊎◌, inl, inr, ◌<◌, ℕ, ◌==◌, Bool, true, false, cond, List, [], ◌∷◌, ◌++◌, length, set, Some, None, Option, IsSome, option_map, nat_lt, refl, sym, ap, ap₂, ◌∙◌, subst, eq-eqb, ne_eqb, lt-ltb, ⊎_elim, le-ltb, ◌≤◌}
use Rattle.std.proofs.lemmas.List.{same_from_push, get_or-set_same, get_or-set_other}
use Rattle.std.proofs.lemmas.Bool.{cases_eq}
use Rattle.x86_64_model.specs.Entry.{huge}
use Rattle.x86_64_model.specs.Laws.Hierarchies.{MayBecome}
use Rattle.x86_64_model.specs.Memory.{Words, word, word_in, set_word}
use Rattle.x86_64_model.specs.PathMap.{PathMap, entry, put, HasUsedAlone, table_of, table_at}
use Rattle.x86_64_model.specs.Path.{level_of}
use Rattle.x86_64_model.specs.Validity.{entry_in, Holds, IsValid}
use Rattle.x86_64_model.proofs.Lemmas.Paths.Puts.{cases_path, entry-put_same, entry-put_other, used_alone-put, same_paths, by_last, append_longer, no_end}

-- the table at a path depends on its own entry alone
pub table_at_same : (L root : ℕ) (M N : PathMap) (p : List ℕ) → entry M p ≡ entry N p → table_at L root M p ≡ table_at L root N p
table_at_same L root M N [] e = refl
table_at_same L root M N (i ∷ p) e = ap (table_of L (i ∷ p)) e

pub table_at_last : (L root : ℕ) (M : PathMap) (p : List ℕ) (i : ℕ) → table_at L root M (p ++ i ∷ []) ≡ table_of L (p ++ i ∷ []) (entry M (p ++ i ∷ []))
table_at_last L root M [] i = refl
table_at_last L root M (j ∷ p) i = refl

pub table_at-put_same : (L root : ℕ) (M : PathMap) (p : List ℕ) (e : ℕ) → p ≢ [] → table_at L root (put M p e) p ≡ table_of L p e
table_at-put_same L root M [] e n = absurd (n refl)
table_at-put_same L root M (i ∷ p) e n = ap (table_of L (i ∷ p)) (entry-put_same M (i ∷ p) e)

pub table_at-put_other : (L root : ℕ) (M : PathMap) (p : List ℕ) (e : ℕ) (q : List ℕ) → q ≢ p → table_at L root (put M p e) q ≡ table_at L root M q
table_at-put_other L root M p e q apart = table_at_same L root _ M q (entry-put_other M p e q apart)

abbrev pub Law : ℕ → Words → ℕ → PathMap → Type 0
Law L tables root M = (q : List ℕ) (i : ℕ) → entry M (q ++ i ∷ []) ≡ entry_in tables (table_at L root M q) i

-- at most one path map has the entries that the words have
pub one_by_law : (L : ℕ) (tables : Words) (root : ℕ) (M N : PathMap) → Law L tables root M → entry M [] ≡ 0 → HasUsedAlone M → Law L tables root N → entry N [] ≡ 0 → HasUsedAlone N → M ≡ N
one_by_law L tables root M N m m0 ma n n0 na =
    same_paths M N ma na (by_last (λ p. entry M p ≡ entry N p) (m0 ∙ sym n0)
    (λ q i e. m q i ∙ ap (λ t. entry_in tables t i) (table_at_same L root M N q e) ∙ sym (n q i)))

-- at most one path map is held
pub one_held : (L : ℕ) (tables : Words) (root : ℕ) (M N : PathMap) → Holds L tables root M → Holds L tables root N → M ≡ N
one_held L tables root M N m n = one_by_law L tables root M N m.entries m.nothing_above m.used_alone n.entries n.nothing_above n.used_alone

-- the words past a table's end
pub word_past : (T : Words) (f i : ℕ) → 512 ≤ i → word T f i ≡ 0
unfolding word
word_past T f i h = ap (λ b. cond b (word_in (T f) i) 0) (le-ltb i 512 h)

-- a word after another was set
pub word-set_same : (T : Words) (f i w : ℕ) (words : List ℕ) → T f ≡ Some words → i < length words → i < 512 → word (set_word T f i w) f i ≡ w
unfolding word set_word
word-set_same T f i w words is within small = ap (λ b. cond b (word_in (set_word T f i w f) i) 0) (lt-ltb i 512 small) ∙ ap (λ b. word_in (cond b (option_map (λ words. set words i w) (T f)) (T f)) i) (eq-eqb f f refl)
    ∙ ap (λ o. word_in (option_map (λ words. set words i w) o) i) is ∙ get_or-set_same words i w 0 within

pub set_word_other : (T : Words) (f i w g : ℕ) → g ≢ f → set_word T f i w g ≡ T g
unfolding set_word
set_word_other T f i w g apart = ap (λ b. cond b (option_map (λ words. set words i w) (T g)) (T g)) (ne_eqb g f apart)

pub word-set_frame : (T : Words) (f i w g j : ℕ) → g ≢ f → word (set_word T f i w) g j ≡ word T g j
unfolding word
word-set_frame T f i w g j apart = ap (λ o. cond (nat_lt j 512) (word_in o j) 0) (set_word_other T f i w g apart)

pub word-set_index : (T : Words) (f i w g j : ℕ) → j ≢ i → word (set_word T f i w) g j ≡ word T g j
unfolding word set_word
word-set_index T f i w g j apart = ap (λ x. cond (nat_lt j 512) x 0) (by (g == f) (T g))
  where
    by : (b : Bool) (o : Option (List ℕ)) → word_in (cond b (option_map (λ words. set words i w) o) o) j ≡ word_in o j
    by true None = refl
    by true (Some words) = get_or-set_other words i j w 0 apart
    by false o = refl

pub is_some-set : (T : Words) (f i w g : ℕ) → IsSome (T g) → IsSome (set_word T f i w g)
unfolding set_word
is_some-set T f i w g h = by (g == f) (T g) h
  where
    by : (b : Bool) (o : Option (List ℕ)) → IsSome o → IsSome (cond b (option_map (λ words. set words i w) o) o)
    by true None h = h
    by true (Some words) h = h
    by false o h = h

module _ (L : ℕ) (T : Words) (root : ℕ) (M : PathMap) (p : List ℕ) (i w f : ℕ) (words : List ℕ)
    (valid : IsValid L T root M) (leads : table_at L root M p ≡ Some f) (is : T f ≡ Some words) (within : i < length words) (small : i < 512)
    (may : MayBecome L T root M p i w) where
  -- the table at each path afterwards
  here : table_at L root (put M (p ++ i ∷ []) w) (p ++ i ∷ []) ≡ table_of L (p ++ i ∷ []) w
  here = table_at-put_same L root M (p ++ i ∷ []) w (λ e. no_end p i (sym e))

  there : (q : List ℕ) → q ≢ p ++ i ∷ [] → table_at L root (put M (p ++ i ∷ []) w) q ≡ table_at L root M q
  there = table_at-put_other L root M (p ++ i ∷ []) w

  -- the new word names a frame other than its own
  not_own : (g : ℕ) → table_of L (p ++ i ∷ []) w ≡ Some g → g ≢ f
  not_own g n e = append_longer p i [] (sym (may.fresh g p n (leads ∙ ap Some (sym e))))

  kept : (t : Option ℕ) (j : ℕ) → ((g : ℕ) → t ≡ Some g → (g ≢ f) ⊎ (j ≢ i)) → entry_in T t j ≡ entry_in (set_word T f i w) t j
  kept None j apart = refl
  kept (Some g) j apart = sym (⊎_elim (λ n. word-set_frame T f i w g j n) (λ n. word-set_index T f i w g j n) (apart g refl))

  entries_after : (q : List ℕ) (j : ℕ) → entry (put M (p ++ i ∷ []) w) (q ++ j ∷ []) ≡ entry_in (set_word T f i w) (table_at L root (put M (p ++ i ∷ []) w) q) j
  entries_after q j = ⊎_elim set_here (λ n. entry-put_other M (p ++ i ∷ []) w (q ++ j ∷ []) n ∙ ⊎_elim set_above (set_elsewhere n) (cases_path q (p ++ i ∷ []))) (cases_path (q ++ j ∷ []) (p ++ i ∷ []))
    where
      set_here : q ++ j ∷ [] ≡ p ++ i ∷ [] → entry (put M (p ++ i ∷ []) w) (q ++ j ∷ []) ≡ entry_in (set_word T f i w) (table_at L root (put M (p ++ i ∷ []) w) q) j
      set_here e =
          let ends : (q ≡ p) × (j ≡ i) = same_from_push q p j i e in
          let t : table_at L root (put M (p ++ i ∷ []) w) q ≡ Some f = ap (table_at L root (put M (p ++ i ∷ []) w)) ends.0 ∙ there p (λ e. append_longer p i [] (sym e)) ∙ leads in
          ap (entry (put M (p ++ i ∷ []) w)) e ∙ entry-put_same M (p ++ i ∷ []) w
          ∙ sym (ap (λ t. entry_in (set_word T f i w) t j) t ∙ ap (word (set_word T f i w) f) ends.1 ∙ word-set_same T f i w words is within small)

      set_above : q ≡ p ++ i ∷ [] → entry M (q ++ j ∷ []) ≡ entry_in (set_word T f i w) (table_at L root (put M (p ++ i ∷ []) w) q) j
      set_above e =
          ap (λ q. entry M (q ++ j ∷ [])) e ∙ may.below j ∙ kept _ j (λ g n. inl (not_own g n))
          ∙ sym (ap (λ t. entry_in (set_word T f i w) t j) (ap (table_at L root (put M (p ++ i ∷ []) w)) e ∙ here))

      set_elsewhere : q ++ j ∷ [] ≢ p ++ i ∷ [] → q ≢ p ++ i ∷ [] → entry M (q ++ j ∷ []) ≡ entry_in (set_word T f i w) (table_at L root (put M (p ++ i ∷ []) w) q) j
      set_elsewhere n apart =
          valid.holds.entries q j ∙ kept _ j (λ g t. ⊎_elim (λ e. inr (λ ji. n (ap₂ (λ q j. q ++ j ∷ []) (valid.own_frames q p f (t ∙ ap Some e) leads) ji))) (λ n. inl n) (cases_eq g f))
          ∙ ap (λ t. entry_in (set_word T f i w) t j) (sym (there q apart))

  -- what leads to a table afterwards
  tables_after : (P : Option ℕ → Type 0) (q : List ℕ) → (q ≡ p ++ i ∷ [] → P (table_of L (p ++ i ∷ []) w)) → (q ≢ p ++ i ∷ [] → P (table_at L root M q)) → P (table_at L root (put M (p ++ i ∷ []) w) q)
  tables_after P q same other = ⊎_elim
      (λ e. subst P (sym (ap (table_at L root (put M (p ++ i ∷ []) w)) e ∙ here)) (same e))
      (λ n. subst P (sym (there q n)) (other n)) (cases_path q (p ++ i ∷ []))

  pub holds_after : Holds L (set_word T f i w) root (put M (p ++ i ∷ []) w)
  holds_after = record {
    entries = entries_after;
    nothing_above = entry-put_other M (p ++ i ∷ []) w [] (no_end p i) ∙ valid.holds.nothing_above;
    used_alone = used_alone-put M (p ++ i ∷ []) w valid.holds.used_alone;
    in_memory = λ q g. tables_after (λ t. t ≡ Some g → IsSome (set_word T f i w g)) q (λ e t. is_some-set T f i w g (may.in_memory g t)) (λ n t. is_some-set T f i w g (valid.holds.in_memory q g t));
  }

  pub valid_after : IsValid L (set_word T f i w) root (put M (p ++ i ∷ []) w)
  valid_after = record {
    holds = holds_after;
    own_frames = λ q r g. tables_after (λ t. t ≡ Some g → table_at L root (put M (p ++ i ∷ []) w) r ≡ Some g → q ≡ r) q
        (λ qe t. tables_after (λ u. u ≡ Some g → q ≡ r) r (λ re u. qe ∙ sym re) (λ rn u. absurd (rn (may.fresh g r t u))))
        (λ qn t. tables_after (λ u. u ≡ Some g → q ≡ r) r (λ re u. absurd (qn (may.fresh g q u t))) (λ rn u. valid.own_frames q r g t u));
    not_zero = λ k q. tables_after (λ t. t ≡ Some 0 → ⊥) (k ∷ q) (λ e t. may.not_zero t) (λ n t. valid.not_zero k q t);
    none_huge = λ q above. ⊎_elim
        (λ e. ap huge (ap (entry (put M (p ++ i ∷ []) w)) e ∙ entry-put_same M (p ++ i ∷ []) w) ∙ may.none_huge (subst (λ q. 3 < level_of L q) e above))
        (λ n. ap huge (entry-put_other M (p ++ i ∷ []) w q n) ∙ valid.none_huge q above)
        (cases_path q (p ++ i ∷ []));
  }
