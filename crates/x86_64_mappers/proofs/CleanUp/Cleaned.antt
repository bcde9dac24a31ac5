-- Sequences of clean ups: an empty one, one after another, and the removal of an empty table.
use Rattle.std.proofs.Common.{◌≡◌, ◌≢◌, ⊎_elim, ◌<◌, ℕ, Bool, true, false, cond, nat_lt, List, [], ◌∷◌, ◌++◌, Option, Some, None, IsSome, refl, sym, ap, ◌∙◌, subst}
use Rattle.x86_64_model.proofs.Lemmas.CleanUps.Trees.{given_frames}
use Rattle.x86_64_model.proofs.Lemmas.CleanUps.Writes.{removed_written, left_table, not_removed}
use Rattle.x86_64_model.proofs.Lemmas.Hierarchies.Exists.{held_is_paths_of}
use Rattle.x86_64_model.proofs.Lemmas.Hierarchies.Held.{word-set_frame}
use Rattle.x86_64_model.proofs.Lemmas.Lists.Members.{in_append}
use Rattle.x86_64_model.proofs.Lemmas.Machines.Writes.{word_is_entry}
use Rattle.x86_64_model.proofs.Lemmas.Paths.Puts.{append_longer}
use Rattle.x86_64_model.specs.Entry.{used}
use Rattle.x86_64_model.specs.Layout.{Layout}
use Rattle.x86_64_model.specs.Lists.{In}
use Rattle.x86_64_model.specs.Memory.{Memory, Distinct, Words, word, word_in, set_word}
use Rattle.x86_64_model.specs.Hierarchy.{◌laid_in◌, Hierarchy, MayCleanUp, Valid, paths, words}
use Rattle.x86_64_model.specs.PathMap.{PathMap, entry, put, table_at}
use Rattle.x86_64_model.specs.Pool.{IsTable, TakesBack, with_returned}
use Rattle.x86_64_model.specs.Window.{Window, IsValidFor, begins_with}
use Rattle.x86_64_mappers.proofs.Memory.Changed.{set_is, set_others, set_keeps}
use Rattle.x86_64_mappers.specs.private.CleaningUp.{IsCleaned}
use Rattle.x86_64_mappers.proofs.Memory.WordsRead.{words_read, there_read}
use Rattle.x86_64_model.proofs.Lemmas.Hierarchies.Memories.{covered}
use Rattle.x86_64_mappers.specs.private.Writes.{IsSet}

word_same : (T U : Words) (f i : ℕ) → U f ≡ T f → word U f i ≡ word T f i
unfolding word
word_same T U f i e = ap (λ o. cond (nat_lt i 512) (word_in o i) 0) e

given_more : (take_back : List ℕ → ℕ → List ℕ) (held xs ys : List ℕ) → with_returned take_back held (xs ++ ys) ≡ with_returned take_back (with_returned take_back held xs) ys
given_more take_back held [] ys = refl
given_more take_back held (x ∷ xs) ys = given_more take_back (take_back held x) xs ys

-- a table's frame is in the memory
pub table_there : (l : Layout) (m : Memory) → Valid (l laid_in m) → (f : ℕ) → IsTable l.levels l.root (paths (l laid_in m)) f → IsSome (words (l laid_in m) f)
table_there l m valid f t = there_read l.window l.root (words (l laid_in m)) f (valid.valid.holds.in_memory t.0 f t.1)

-- a path below one outside the recursive index is outside it too
pub outside_more : (window : Option Window) (q : List ℕ) (i j : ℕ) → begins_with window (q ++ i ∷ []) ≡ false → begins_with window ((q ++ i ∷ []) ++ j ∷ []) ≡ false
outside_more None q i j out = refl
outside_more (Some w) [] i j out = out
outside_more (Some w) (k ∷ q) i j out = out

module _ (l : Layout) (take_back : List ℕ → ℕ → List ℕ) where
  pub cleaned_nothing : (m : Memory) → Valid (l laid_in m) → (held : List ℕ) → IsCleaned l take_back m held (paths (l laid_in m)) [] m held
  cleaned_nothing m valid held = record {
    meant = refl;
    valid = valid;
    given = refl;
    left = λ q f t. t;
    were = λ f h. absurd h;
    gone = λ f h. absurd h;
    empty = λ f h. absurd h;
    there = λ f h. h;
    others = λ k h. refl;
  }

  module _ (apart : Distinct l.places) where
    -- one clean up after another
    module _ (m : Memory) (valid : Valid (l laid_in m)) (held : List ℕ) (N : PathMap) (back : List ℕ) (n : Memory) (rest : List ℕ) (a : IsCleaned l take_back m held N back n rest)
        (O : PathMap) (more : List ℕ) (o : Memory) (left : List ℕ) (b : IsCleaned l take_back n rest O more o left) where
      was_table : (f : ℕ) → IsTable l.levels l.root (paths (l laid_in n)) f → IsTable l.levels l.root (paths (l laid_in m)) f
      was_table f t = (t.0, a.left t.0 f t.1)

      -- the words of a frame that was in the memory and is no longer a table stay
      kept : (f : ℕ) → IsSome (words (l laid_in n) f) → (IsTable l.levels l.root (paths (l laid_in n)) f → ⊥) → words (l laid_in o) f ≡ words (l laid_in n) f
      kept f there none = ap (λ w. cond (l.places.covers f) w None) (b.others (l.places.place f) (λ g t e.
          none (subst (IsTable l.levels l.root (paths (l laid_in n))) (apart g f (covered n l.places g (table_there l n a.valid g t)) (covered n l.places f there) e) t)))

      pub cleaned_then : IsCleaned l take_back m held O (back ++ more) o left
      cleaned_then = record {
        meant = b.meant;
        valid = b.valid;
        given = b.given ∙ ap (λ held. with_returned take_back held more) a.given ∙ sym (given_more take_back held back more);
        left = λ q f t. a.left q f (b.left q f t);
        were = λ f h. ⊎_elim (a.were f) (λ h. was_table f (b.were f h)) (in_append back more f h);
        gone = λ f h t. ⊎_elim (λ h. a.gone f h (t.0, b.left t.0 f t.1)) (λ h. b.gone f h t) (in_append back more f h);
        empty = λ f h i. ⊎_elim
            (λ h. word_same (words (l laid_in n)) (words (l laid_in o)) f i (kept f (a.there f (table_there l m valid f (a.were f h))) (a.gone f h)) ∙ a.empty f h i)
            (λ h. b.empty f h i) (in_append back more f h);
        there = λ f h. b.there f (a.there f h);
        others = λ k h. b.others k (λ f t. h f (was_table f t)) ∙ a.others k h;
      }

    -- if a table's words are all 0, its entry becomes unused and its frame is returned
    module _ (at_least_four : 0 < l.levels) (m : Memory) (valid : Valid (l laid_in m)) (held : List ℕ) (q : List ℕ) (i f : ℕ) (leads : table_at l.levels l.root (paths (l laid_in m)) q ≡ Some f) (small : i < 512)
        (outside : begins_with l.window (q ++ i ∷ []) ≡ false) (g : ℕ) (names : table_at l.levels l.root (paths (l laid_in m)) (q ++ i ∷ []) ≡ Some g) (in_use : used (entry (paths (l laid_in m)) (q ++ i ∷ [])) ≡ true)
        (empty : (j : ℕ) → word (words (l laid_in m)) g j ≡ 0) (n : Memory) (set : IsSet l.places m f i 0 n) where
      abbrev M : PathMap
      M = paths (l laid_in m)

      abbrev r : List ℕ
      r = q ++ i ∷ []

      set_words : words (l laid_in n) ≡ set_word (words (l laid_in m)) f i 0
      set_words = set_is l.places apart m f i 0 n set

      valid_put : IsValidFor l.levels l.window (words (l laid_in n)) l.root (put M r 0)
      valid_put = subst (λ T. IsValidFor l.levels l.window T l.root (put M r 0)) (sym set_words)
          (removed_written l.levels l.window (words (l laid_in m)) l.root M valid q i f leads small outside in_use
          (λ j inside. sym (word_is_entry l.levels l.window (words (l laid_in m)) l.root M valid r j g names inside (outside_more l.window q i j outside)) ∙ empty j))

      is : put M r 0 ≡ paths (l laid_in n)
      is = held_is_paths_of l.levels (words_read l n) l.root at_least_four (put M r 0) valid_put.valid.holds

      before : (p : List ℕ) (h : ℕ) → table_at l.levels l.root (paths (l laid_in n)) p ≡ Some h → table_at l.levels l.root (put M r 0) p ≡ Some h
      before p h t = ap (λ N. table_at l.levels l.root N p) is ∙ t

      apart_frames : g ≢ f
      apart_frames e = append_longer q i [] (valid.valid.own_frames r q f (names ∙ ap Some e) leads)

      pub cleaned_removed : IsCleaned l take_back m held (put M r 0) (g ∷ []) n (take_back held g)
      cleaned_removed = record {
        meant = sym is;
        valid = subst (IsValidFor l.levels l.window (words (l laid_in n)) l.root) is valid_put;
        given = refl;
        left = λ p h t. left_table l.levels l.window (words (l laid_in m)) l.root M valid q i p h (before p h t);
        were = λ h. ⊎_elim (λ e. (r, names ∙ ap Some e)) (λ none. absurd none);
        gone = λ h. ⊎_elim (λ e t. not_removed l.levels l.window (words (l laid_in m)) l.root M valid q i t.0 h (before t.0 h t.1) (names ∙ ap Some e)) (λ none. absurd none);
        empty = λ h. ⊎_elim (λ e j. ap (λ T. word T h j) set_words ∙ ap (λ h. word (set_word (words (l laid_in m)) f i 0) h j) (sym e) ∙ word-set_frame (words (l laid_in m)) f i 0 g j apart_frames ∙ empty j) (λ none. absurd none);
        there = set_keeps l.places apart m f i 0 n set;
        others = λ k h. set_others l.places apart m f i 0 n set k (λ e. h f (q, leads) (sym e));
      }

-- ---- the condition of a clean up still holds

pub may_still : {Lent : Type 0} (h : Hierarchy Lent) (take_back : List ℕ → ℕ → List ℕ) → TakesBack take_back → (serves : ℕ → Bool) (held : List ℕ) → MayCleanUp h serves held
    → (N : PathMap) (back : List ℕ) (n : Memory) (rest : List ℕ) → IsCleaned h.layout take_back h.memory held N back n rest → MayCleanUp (record h { memory = n }) serves rest
may_still h take_back gives serves held may N back n rest c = record {
  valid = c.valid;
  serves_tables = λ i q f t. may.serves_tables i q f (c.left (i ∷ q) f t);
  none_held = λ i q f t h. ⊎_elim
      (λ came. c.gone f came (i ∷ q, t))
      (λ was. may.none_held i q f (c.left (i ∷ q) f t) was)
      (in_append back held f ((given_frames take_back gives held back f).0 (subst (λ fs. In fs f) c.given h)));
}

-- a table other than the root may be returned
pub may_give : {Lent : Type 0} (h : Hierarchy Lent) (serves : ℕ → Bool) (held : List ℕ) → MayCleanUp h serves held → (q : List ℕ) (i f : ℕ)
    → table_at h.layout.levels h.layout.root (paths h) (q ++ i ∷ []) ≡ Some f → (serves f ≡ true) × (In held f → ⊥)
may_give h serves held may [] i f t = (may.serves_tables i [] f t, may.none_held i [] f t)
may_give h serves held may (k ∷ q) i f t = (may.serves_tables k (q ++ i ∷ []) f t, may.none_held k (q ++ i ∷ []) f t)
