-- The result of a list of calls determines every word of the memory.
use Rattle.std.proofs.Common.{◌≡◌, ⊎_elim, ℕ, ◌==◌, Bool, true, false, cond, List, [], ◌∷◌, ◌++◌, Option, Some, None, refl, sym, ap, ◌∙◌, subst, eqb-true}
use Rattle.std.proofs.lemmas.Bool.{eqb-false}
use Rattle.std.specs.FinMap.{get}
use Rattle.x86_64_model.specs.Validity.{entry_in}
use Rattle.x86_64_model.specs.Layout.{Layout}
use Rattle.x86_64_model.specs.Hierarchy.{◌laid_in◌, Owns, paths, words}
use Rattle.x86_64_model.specs.Lists.{In}
use Rattle.x86_64_model.specs.Memory.{Memory, Words, IsMapping, word, set_word}
use Rattle.x86_64_model.specs.PathMap.{PathMap, entry, table_at}
use Rattle.x86_64_model.specs.Pool.{IsOwn, IsTable}
use Rattle.x86_64_model.specs.Window.{Window, IsValidFor}
use Rattle.x86_64_model.proofs.Lemmas.Hierarchies.Elsewhere.{same_word}
use Rattle.x86_64_model.proofs.Lemmas.Hierarchies.Held.{word-set_frame, word-set_index}
use Rattle.x86_64_model.proofs.Lemmas.Hierarchies.Memories.{covered}
use Rattle.x86_64_model.proofs.Lemmas.Machines.Fitting.{own_there}
use Rattle.x86_64.specs.EveryWord.{EveryWordIsDecided, IsKnownAfter}
use Rattle.x86_64.specs.Runs.{state_in}
use Rattle.x86_64.proofs.FreeFrames.{in_or_not}

-- numbers that can't differ are equal
stable : (a b : ℕ) → ((a ≡ b → ⊥) → ⊥) → a ≡ b
stable a b never = by (a == b) refl
  where
    by : (c : Bool) → (a == b) ≡ c → a ≡ b
    by true is = eqb-true a b is
    by false is = absurd (never (eqb-false a b is))

-- the word at an index of the table of a path is the entry there
word_of_table : (L : ℕ) (T : Words) (root : ℕ) (M : PathMap) (q : List ℕ) (f i : ℕ) → ((q : List ℕ) (i : ℕ) → entry M (q ++ i ∷ []) ≡ entry_in T (table_at L root M q) i) → table_at L root M q ≡ Some f
    → word T f i ≡ entry M (q ++ i ∷ [])
word_of_table L T root M q f i entries leads = sym (entries q i ∙ ap (λ t. entry_in T t i) leads)

-- the path map and the self-entry determine the words of tables
table_words : (L : ℕ) (window : Option Window) (T U : Words) (root : ℕ) (M : PathMap) → IsValidFor L window T root M → IsValidFor L window U root M → (f i : ℕ) → IsTable L root M f → word T f i ≡ word U f i
table_words L None T U root M valid other f i table =
    word_of_table L T root M table.0 f i valid.valid.holds.entries table.1 ∙ sym (word_of_table L U root M table.0 f i other.valid.holds.entries table.1)
table_words L (Some w) T U root M valid other f i table = by (f == root) (i == w.index) refl refl
  where
    same : word (set_word T root w.index 0) f i ≡ word (set_word U root w.index 0) f i
    same = word_of_table L (set_word T root w.index 0) root M table.0 f i valid.valid.holds.entries table.1 ∙ sym (word_of_table L (set_word U root w.index 0) root M table.0 f i other.valid.holds.entries table.1)

    by : (a b : Bool) → (f == root) ≡ a → (i == w.index) ≡ b → word T f i ≡ word U f i
    by false b apart at = sym (word-set_frame T root w.index 0 f i (eqb-false f root apart)) ∙ same ∙ word-set_frame U root w.index 0 f i (eqb-false f root apart)
    by true false here apart = sym (word-set_index T root w.index 0 f i (eqb-false i w.index apart)) ∙ same ∙ word-set_index U root w.index 0 f i (eqb-false i w.index apart)
    by true true here at =
        let read : (V : Words) → word V f i ≡ word V root w.index = λ V. ap (λ g. word V g i) (eqb-true f root here) ∙ ap (λ j. word V root j) (eqb-true i w.index at) in
        read T ∙ sym valid.self.is_word ∙ other.self.is_word ∙ sym (read U)

module _ (l : Layout) (mapping : IsMapping l.places) (m n : Memory) (pool back rest : List ℕ) (left : IsKnownAfter l m pool back n rest) where
  own_is_covered : (f : ℕ) → Owns (l laid_in n) rest f → l.places.covers f ≡ true
  own_is_covered f own = covered n l.places f (own_there l.levels l.window (words (l laid_in n)) l.root left.serves (state_in l n rest) left.keeps.fits f own)

  -- a frame that is neither free nor a table keeps its words
  other_words : (f : ℕ) → l.places.covers f ≡ true → (Owns (l laid_in n) rest f → ⊥) → words (l laid_in n) f ≡ words (l laid_in m) f
  other_words f cover none = ap (λ o. cond (l.places.covers f) o None) (left.keeps.others (l.places.place f) (λ g own e.
      let after = (left.keeps.conserved g).0 own in
      none (subst (Owns (l laid_in n) rest) (mapping.distinct g f (own_is_covered g after) cover e) after)))

pub every_word_is_decided : EveryWordIsDecided
every_word_is_decided l mapping m k n o pool back rest same left other meant f i = by (l.places.covers f) refl
  where
    here : (before after : Memory) → words (l laid_in after) f ≡ words (l laid_in before) f → word (words (l laid_in after)) f i ≡ word (words (l laid_in before)) f i
    here before after is = same_word (words (l laid_in before)) (words (l laid_in after)) f i is

    kept : words (l laid_in n) f ≡ words (l laid_in m) f → words (l laid_in o) f ≡ words (l laid_in k) f → word (words (l laid_in n)) f i ≡ word (words (l laid_in o)) f i
    kept first second = here m n first ∙ same f i ∙ sym (here k o second)

    free : In rest f → word (words (l laid_in n)) f i ≡ word (words (l laid_in o)) f i
    free is = ⊎_elim (λ came. left.free.came_back f is came i ∙ sym (other.free.came_back f is came i))
        (λ none. kept (left.free.same_words f is none) (other.free.same_words f is none)) (in_or_not back f)

    table : IsTable l.levels l.root (paths (l laid_in n)) f → word (words (l laid_in n)) f i ≡ word (words (l laid_in o)) f i
    table is = table_words l.levels l.window (words (l laid_in n)) (words (l laid_in o)) l.root (paths (l laid_in n)) left.keeps.fits.valid
        (subst (λ (M : PathMap). IsValidFor l.levels l.window (words (l laid_in o)) l.root M) (sym meant) other.keeps.fits.valid) f i is

    by : (b : Bool) → l.places.covers f ≡ b → word (words (l laid_in n)) f i ≡ word (words (l laid_in o)) f i
    by false uncovered =
        let none : (p : Memory) → words (l laid_in p) f ≡ None = λ p. ap (λ b. cond b (get p (l.places.place f)) None) uncovered in
        same_word (words (l laid_in o)) (words (l laid_in n)) f i (none n ∙ sym (none o))
    by true cover = stable (word (words (l laid_in n)) f i) (word (words (l laid_in o)) f i) (λ differ.
        let no_own : Owns (l laid_in n) rest f → ⊥ = λ own. differ (⊎_elim free table own) in
        differ (kept (other_words l mapping m n pool back rest left f cover no_own)
        (other_words l mapping k o pool back rest other f cover (λ own. no_own (subst (λ (M : PathMap). IsOwn l.levels l.root M rest f) (sym meant) own)))))
