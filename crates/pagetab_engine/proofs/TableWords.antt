-- Every word after a call is that of a table, a returned frame's 0, or as before.
use Rattle.std.proofs.Common.{◌≡◌, ⊎_elim, ℕ, ◌==◌, ◌&&◌, Bool, true, false, cond, List, [], ◌∷◌, ◌++◌, Option, Some, None, refl, sym, ap, ◌∙◌, subst, eqb-true, eq-eqb, true≢false}
use Rattle.std.proofs.lemmas.Bool.{eqb-false, and_parts, or_left, or_right}
use Rattle.std.specs.FinMap.{get, keys}
use Rattle.std.specs.List.{list_any}
use Rattle.x86_64_model.specs.Validity.{entry_in}
use Rattle.x86_64_model.specs.Layout.{Layout}
use Rattle.x86_64_model.specs.Hierarchy.{◌laid_in◌, Owns, paths, words}
use Rattle.x86_64_model.specs.Memory.{Memory, Words, IsMapping, word, set_word}
use Rattle.x86_64_model.specs.PathMap.{PathMap, entry, table_at}
use Rattle.x86_64_model.specs.Pool.{IsTable}
use Rattle.x86_64_model.specs.Store.{KeepsPool}
use Rattle.x86_64_model.specs.Window.{Window, IsValidFor}
use Rattle.x86_64_model.specs.Hierarchy.{state_in}
use Rattle.x86_64_model.proofs.Lemmas.CleanUps.Keys.{key_of_used}
use Rattle.x86_64_model.proofs.Lemmas.Hierarchies.Elsewhere.{same_word}
use Rattle.x86_64_model.proofs.Lemmas.Hierarchies.Held.{word-set_frame, word-set_index}
use Rattle.x86_64_model.proofs.Lemmas.Hierarchies.Memories.{covered}
use Rattle.x86_64_model.proofs.Lemmas.Hierarchies.Trees.{table_of_gives}
use Rattle.x86_64_model.proofs.Lemmas.Machines.Fitting.{own_there}
use Rattle.x86_64_model.proofs.Lemmas.Paths.Puts.{same_path, same_path_true, same_path_itself}
use Rattle.x86_64.specs.FreeFrames.{KeepsFree}
use Rattle.x86_64_tables.specs.LentPool.{is_in}
use Rattle.pagetab_engine.specs.TableWords.{is_there, path_to, table_word, table_word_or, words_after}
use Rattle.pagetab_engine.proofs.Lists.{found, is_in_tells, none_found}

-- ---- the path to a frame

there : (f : ℕ) (o : Option ℕ) → o ≡ Some f → is_there f o ≡ true
there f o is = subst (λ o. is_there f o ≡ true) (sym is) (eq-eqb f f refl)

led : (f : ℕ) (o : Option ℕ) → is_there f o ≡ true → o ≡ Some f
led f None is = absurd (true≢false (sym is))
led f (Some g) is = ap Some (eqb-true g f is)

module _ (L root : ℕ) (M : PathMap) (f : ℕ) where
  -- a path that leads there is among those that are tried
  among : (q : List ℕ) → table_at L root M q ≡ Some f → list_any (same_path q) ([] ∷ keys M) ≡ true
  among [] leads = or_left (same_path [] []) (list_any (same_path []) (keys M)) (same_path_itself [])
  among (i ∷ q) leads = or_right (same_path (i ∷ q) []) (list_any (same_path (i ∷ q)) (keys M)) (key_of_used M (i ∷ q) (and_parts _ _ (table_of_gives L (i ∷ q) (entry M (i ∷ q)) f leads).is_table).0)

  no_path : path_to L root M f ≡ None → IsTable L root M f → ⊥
  no_path none (q, leads) = none_found (λ p. is_there f (table_at L root M p)) (same_path q) (λ p same. there f (table_at L root M p) (ap (table_at L root M) (sym (same_path_true q p same)) ∙ leads))
      ([] ∷ keys M) none (among q leads)

  leads_there : (q : List ℕ) → path_to L root M f ≡ Some q → table_at L root M q ≡ Some f
  leads_there q is = led f (table_at L root M q) (found (λ p. is_there f (table_at L root M p)) ([] ∷ keys M) q is)

-- ---- the words of tables

-- the word at an index of the table of a path is the entry there
entry_there : (L : ℕ) (T : Words) (root : ℕ) (M : PathMap) (q : List ℕ) (f i : ℕ) → ((q : List ℕ) (i : ℕ) → entry M (q ++ i ∷ []) ≡ entry_in T (table_at L root M q) i) → table_at L root M q ≡ Some f
    → word T f i ≡ entry M (q ++ i ∷ [])
entry_there L T root M q f i entries leads = sym (entries q i ∙ ap (λ t. entry_in T t i) leads)

word_there : (L : ℕ) (window : Option Window) (T : Words) (root : ℕ) (M : PathMap) → IsValidFor L window T root M → (q : List ℕ) (f i : ℕ) → table_at L root M q ≡ Some f → word T f i ≡ table_word window M q i
word_there L None T root M valid q f i leads = entry_there L T root M q f i valid.valid.holds.entries leads
word_there L (Some w) T root M valid [] f i leads = by (i == w.index) refl
  where
    at : f ≡ root
    at = cc leads

    by : (b : Bool) → (i == w.index) ≡ b → word T f i ≡ cond b w.self_entry (entry M (i ∷ []))
    by true same = ap (λ g. word T g i) at ∙ ap (word T root) (eqb-true i w.index same) ∙ sym valid.self.is_word
    by false apart = sym (word-set_index T root w.index 0 f i (eqb-false i w.index apart)) ∙ entry_there L (set_word T root w.index 0) root M [] f i valid.valid.holds.entries leads
word_there L (Some w) T root M valid (j ∷ q) f i leads =
    let apart : f ≡ root → ⊥ = λ same. absurd (let e : j ∷ q ≡ [] = valid.valid.own_frames (j ∷ q) [] f leads (ap Some (sym same)) in cc) in
    sym (word-set_frame T root w.index 0 f i apart) ∙ entry_there L (set_word T root w.index 0) root M (j ∷ q) f i valid.valid.holds.entries leads

-- ---- all words

module _ (l : Layout) (mapping : IsMapping l.places) (serves : ℕ → Bool) (m n : Memory) (pool back rest : List ℕ) (keeps : KeepsPool l serves m pool n rest) (free : KeepsFree l m pool back n rest) where
  own_is_covered : (f : ℕ) → Owns (l laid_in n) rest f → l.places.covers f ≡ true
  own_is_covered f own = covered n l.places f (own_there l.levels l.window (words (l laid_in n)) l.root serves (state_in l n rest) keeps.fits f own)

  -- a frame that is neither free nor a table keeps its words
  others_stay : (f : ℕ) → (Owns (l laid_in n) rest f → ⊥) → words (l laid_in n) f ≡ words (l laid_in m) f
  others_stay f none = by (l.places.covers f) refl
    where
      by : (b : Bool) → l.places.covers f ≡ b → cond b (get n (l.places.place f)) None ≡ cond b (get m (l.places.place f)) None
      by false uncovered = refl
      by true cover = keeps.others (l.places.place f) (λ g own e.
          let after = (keeps.conserved g).0 own in
          none (subst (Owns (l laid_in n) rest) (mapping.distinct g f (own_is_covered g after) cover e) after))

  pub words_told : (f i : ℕ) → word (words (l laid_in n)) f i ≡ words_after l (record { paths = paths (l laid_in n); pool = rest }) back (word (words (l laid_in m))) f i
  words_told f i = by (path_to l.levels l.root (paths (l laid_in n)) f) refl
    where
      kept : words (l laid_in n) f ≡ words (l laid_in m) f → word (words (l laid_in n)) f i ≡ word (words (l laid_in m)) f i
      kept is = same_word (words (l laid_in m)) (words (l laid_in n)) f i is

      other : (IsTable l.levels l.root (paths (l laid_in n)) f → ⊥) → (a b : Bool) → is_in rest f ≡ a → is_in back f ≡ b → word (words (l laid_in n)) f i ≡ cond (a && b) 0 (word (words (l laid_in m)) f i)
      other none true true free_now came = free.came_back f ((is_in_tells rest f).0 free_now) ((is_in_tells back f).0 came) i
      other none true false free_now stayed = kept (free.same_words f ((is_in_tells rest f).0 free_now) (λ came. true≢false (sym ((is_in_tells back f).1 came) ∙ stayed)))
      other none false b used came = kept (others_stay f (⊎_elim (λ is. true≢false (sym ((is_in_tells rest f).1 is) ∙ used)) none))

      by : (path : Option (List ℕ)) → path_to l.levels l.root (paths (l laid_in n)) f ≡ path
          → word (words (l laid_in n)) f i ≡ table_word_or l.window (paths (l laid_in n)) path i (cond (is_in rest f && is_in back f) 0 (word (words (l laid_in m)) f i))
      by (Some q) is = word_there l.levels l.window (words (l laid_in n)) l.root (paths (l laid_in n)) keeps.fits.valid q f i (leads_there l.levels l.root (paths (l laid_in n)) f q is)
      by None is = other (no_path l.levels l.root (paths (l laid_in n)) f is) (is_in rest f) (is_in back f) refl refl
