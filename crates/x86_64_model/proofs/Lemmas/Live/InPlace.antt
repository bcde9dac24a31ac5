-- An entry that is changed in place: one word is written, which names the table that the entry named, or
-- none as before.
use Rattle.std.proofs.Common.{◌≡◌, ◌≢◌, inl, inr, ⊎_elim, ◌<◌, ℕ, ◌==◌, ◌&&◌, not, Bool, true, false, cond, List, [], ◌∷◌, ◌++◌, length, set, length-set, option_map, Some, None, Option, nat_lt, refl, sym, ap, ap₂, ◌∙◌, subst, arith, eq-eqb}
use Rattle.x86_64_model.specs.Entry.{huge, address, names_table}
use Rattle.x86_64_model.specs.Validity.{IsValid}
use Rattle.x86_64_model.specs.Laws.EntriesInPlace.{NamesNoTable, NameOneTable, MayReplace}
use Rattle.x86_64_model.specs.Laws.Hierarchies.{MayBecome}
use Rattle.x86_64_model.specs.Memory.{Words, word, set_word}
use Rattle.x86_64_model.specs.Path.{level_of}
use Rattle.x86_64_model.specs.PathMap.{PathMap, entry, put, table_of, table_at}
use Rattle.x86_64_model.specs.Pool.{Fits}
use Rattle.x86_64_model.specs.Window.{Window, IsValidFor, begins_with, outside_window}
use Rattle.x86_64_model.proofs.Lemmas.Entries.Bits.{used_from}
use Rattle.x86_64_model.proofs.Lemmas.Hierarchies.Changes.{may_be_marked, unused_no_table, unnamed, huge_names_none, leaf_none, zero_not_huge}
use Rattle.x86_64_model.proofs.Lemmas.Hierarchies.Held.{valid_after, table_at_last, table_at-put_same, table_at-put_other, is_some-set}
use Rattle.x86_64_model.proofs.Lemmas.Hierarchies.Memories.{outside_set}
use Rattle.x86_64_model.proofs.Lemmas.Machines.Writes.{not_self, self_after, word_is_entry}
use Rattle.x86_64_model.proofs.Lemmas.Paths.Puts.{cases_path, no_end}
use Rattle.x86_64_model.proofs.Lemmas.Walks.Agrees.{named}

-- the words of a table, as the path map sees them
pub outside_table : (window : Option Window) (root : ℕ) (T : Words) (f i : ℕ) (table : List ℕ)
    → T f ≡ Some table → i < length table
    → (seen : List ℕ) × (outside_window window root T f ≡ Some seen) × (i < length seen)
unfolding set_word
outside_table None root T f i table is within = (table, is, within)
outside_table (Some w) root T f i table is within = by (f == root)
  where
    by : (b : Bool) → (seen : List ℕ) ×
        (cond b (option_map (λ words. set words w.index 0) (T f)) (T f) ≡ Some seen) × (i < length seen)
    by true = (
      set table w.index 0,
      ap (option_map (λ words. set words w.index 0)) is,
      subst (λ n. i < n)
          (sym (length-set table w.index 0)) within,
    )
    by false = (table, is, within)

-- ---- a word that takes the place of another

-- which table the word names, and that it isn't huge where no entry is
pub record Replaces (L : ℕ) (q : List ℕ) (e w : ℕ) : Type 0 where
  pub same_table : table_of L q w ≡ table_of L q e
  pub low : 3 < level_of L q → huge w ≡ false

pub none_named : (L : ℕ) (q : List ℕ) (e : ℕ) → NamesNoTable L q e → table_of L q e ≡ None
none_named L q e (inl last) = leaf_none L q e
    (λ h. absurd (let t : (length q == L) ≡ true = eq-eqb _ _ last in let u : true ≡ false = sym t
    ∙ h in cc))
none_named L q e (inr (inl zero)) = ap (table_of L q) zero ∙ unused_no_table L q
none_named L q e (inr (inr page)) = unnamed L q e (huge_names_none e page.1)

none_low : (L : ℕ) (q : List ℕ) (w : ℕ) → NamesNoTable L q w → 3 < level_of L q → huge w ≡ false
none_low L q w (inl last) high = absurd (omega (arith, last, high))
none_low L q w (inr (inl zero)) high = ap huge zero ∙ zero_not_huge
none_low L q w (inr (inr page)) high = absurd (let low = page.0 in omega (arith, low, high))

no_address : address 0 ≡ 0
unfolding address
no_address = refl

pub still_named : (e w : ℕ) → address e ≢ 0 → address w ≡ address e → huge w ≡ false → names_table w ≡ true
still_named e w nonzero same plain = ap₂ (λ u h. u && not h)
    (used_from w (λ z. nonzero (sym same ∙ ap address z ∙ no_address))) plain

one_named : (L : ℕ) (q : List ℕ) (e w : ℕ) → address e ≢ 0 → NameOneTable L q e w
    → table_of L q w ≡ table_of L q e
unfolding table_of
one_named L q e w nonzero one = ap₂ (λ b a. cond (b && nat_lt (length q) L) (Some a) None)
    (still_named e w nonzero one.same_address one.not_huge ∙ sym one.is_table) one.same_address

pub replaces : (L : ℕ) (q : List ℕ) (e w : ℕ) → (names_table e ≡ true → length q < L → address e ≢ 0)
    → MayReplace L q e w → Replaces L q e w
replaces L q e w nonzero (inl none) = record {
  same_table = none_named L q w none.1
      ∙ sym (none_named L q e none.0);
  low = none_low L q w none.1;
}
replaces L q e w nonzero (inr one) = record {
  same_table = one_named L q e w
      (nonzero one.is_table one.above) one;
  low = λ high. one.not_huge;
}

-- ---- the write of one word

pub set_table : (T : Words) (f i w g j : ℕ) (table : List ℕ) → T g ≡ Some table → j < length table
    → (now : List ℕ) × (set_word T f i w g ≡ Some now) × (j < length now)
unfolding set_word
set_table T f i w g j table is within = by (g == f)
  where
    by : (b : Bool) → (now : List ℕ) × (cond b (option_map (λ words. set words i w) (T g)) (T g) ≡ Some now)
        × (j < length now)
    by true = (
      set table i w,
      ap (option_map (λ words. set words i w)) is,
      subst (λ n. j < n)
          (sym (length-set table i w)) within,
    )
    by false = (table, is, within)

module _ (L : ℕ) (window : Option Window) (T : Words) (root : ℕ) (M : PathMap) (q p : List ℕ) (i f w : ℕ)
    (is : q ≡ p ++ i ∷ []) (leads : table_at L root M p ≡ Some f)
    (table : List ℕ) (there : T f ≡ Some table) (within : i < length table) (small : i < 512)
    (out : begins_with window q ≡ false) where
  nonempty : q ≢ []
  nonempty e = no_end p i (sym e ∙ is)

  at_last : table_at L root M q ≡ table_of L q (entry M q)
  at_last = subst (λ r. table_at L root M r ≡ table_of L r (entry M r)) (sym is) (table_at_last L root M p i)

  out_last : begins_with window (p ++ i ∷ []) ≡ false
  out_last = ap (begins_with window) (sym is) ∙ out

  module _ (valid : IsValidFor L window T root M) where
    pub word_seen : word T f i ≡ entry M q
    word_seen = word_is_entry L window T root M valid p i f leads small out_last ∙ ap (entry M) (sym is)

    pub nonzero : names_table (entry M q) ≡ true → length q < L → address (entry M q) ≢ 0
    nonzero = by q nonempty
      where
        by : (q : List ℕ) → q ≢ [] → names_table (entry M q) ≡ true → length q < L → address (entry M q) ≢ 0
        by [] n t b z = n refl
        by (j ∷ r) n t b z = valid.valid.not_zero j r (named L (j ∷ r) (entry M (j ∷ r)) t b ∙ ap Some z)

    module _ (new : Replaces L q (entry M q) w) where
      may : MayBecome L (outside_window window root T) root M p i w
      may = may_be_marked L (outside_window window root T) root M valid.valid p i w
          (subst (λ r. table_of L r w ≡ table_of L r (entry M r)) is new.same_table
          ∙ sym (table_at_last L root M p i))
          (λ up. new.low (subst (λ r. 3 < level_of L r) (sym is) up))

      pub valid_written : IsValidFor L window (set_word T f i w) root (put M q w)
      valid_written =
          let seen = outside_table window root T f i table there within in
          let apart = not_self L window T root M valid p i f leads small out_last in
          record {
            valid = subst (λ r. IsValid L (outside_window window root (set_word T f i w)) root (put M r w))
                (sym is)
                (subst (λ V. IsValid L V root (put M (p ++ i ∷ []) w))
                (sym (outside_set window root T f i w apart))
                (valid_after L
                (outside_window window root T) root M p i w f seen.0 valid.valid leads seen.1 seen.2 small may));
            self = self_after window T root f i w apart valid.self;
          }

      pub tables_same : (r : List ℕ) → table_at L root (put M q w) r ≡ table_at L root M r
      tables_same r = ⊎_elim
          (λ e. ap (table_at L root (put M q w)) e ∙ table_at-put_same L root M q w nonempty
          ∙ new.same_table ∙ sym at_last ∙ ap (table_at L root M) (sym e))
          (λ n. table_at-put_other L root M q w r n)
          (cases_path r q)

      pub fits_written : (serves : ℕ → Bool) (pool : List ℕ) → Fits L window T root M serves pool
          → Fits L window (set_word T f i w) root (put M q w) serves pool
      fits_written serves pool fits = record {
        valid = valid_written;
        each_once = fits.each_once;
        in_memory = λ g k. is_some-set T f i w g (fits.in_memory g k);
        are_frames = fits.are_frames;
        not_zero = fits.not_zero;
        no_table = λ g k t. fits.no_table g k (t.0, sym (tables_same t.0) ∙ t.1);
        serves_pool = fits.serves_pool;
        serves_tables = λ j r g t. fits.serves_tables j r g (sym (tables_same (j ∷ r)) ∙ t);
      }
