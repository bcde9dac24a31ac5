-- The words of free frames after calls.
use Rattle.std.proofs.Common.{◌≡◌, ◌⊎◌, inl, inr, ⊎_elim, ℕ, ◌==◌, Bool, true, false, cond, List, [], ◌∷◌, ◌++◌, None, refl, sym, ap, ◌∙◌, subst, append-nil, append_assoc, eqb-true}
use Rattle.std.proofs.lemmas.Bool.{eqb-false}
use Rattle.x86_64_model.specs.Call.{Call, CleanUp}
use Rattle.x86_64_model.specs.Layout.{Layout}
use Rattle.x86_64_model.specs.Hierarchy.{◌laid_in◌, KeepsOthers, Owns, PoolFits, paths, words}
use Rattle.x86_64_model.specs.Lists.{In}
use Rattle.x86_64_model.specs.Memory.{Memory, IsMapping, word}
use Rattle.x86_64_model.specs.Pool.{IsTable, TakesBack, with_returned}
use Rattle.x86_64_model.specs.Flushing.{freed_by}
use Rattle.x86_64_model.proofs.Lemmas.CleanUps.Trees.{given_frames}
use Rattle.x86_64_model.proofs.Lemmas.Hierarchies.Elsewhere.{same_word}
use Rattle.x86_64_model.proofs.Lemmas.Hierarchies.Memories.{covered}
use Rattle.x86_64_model.proofs.Lemmas.Lists.Members.{in_left, in_right, in_append}
use Rattle.x86_64_model.proofs.Lemmas.Machines.Fitting.{own_there}
use Rattle.x86_64.specs.FreeFrames.{KeepsFree}
use Rattle.x86_64.specs.Runs.{state_in}
use Rattle.x86_64.proofs.ReplyCases.{IsOnPage}

-- ---- one call

module _ (l : Layout) (mapping : IsMapping l.places) (serves : ℕ → Bool) (m : Memory) (pool : List ℕ) (fits : PoolFits (l laid_in m) serves pool) where
  abbrev Table : (f : ℕ) → Type 0
  Table f = IsTable l.levels l.root (paths (l laid_in m)) f

  own_is_covered : (f : ℕ) → Owns (l laid_in m) pool f → l.places.covers f ≡ true
  own_is_covered f own = covered m l.places f (own_there l.levels l.window (words (l laid_in m)) l.root serves (state_in l m pool) fits f own)

  -- a frame that is free before and after keeps its words, if only tables and taken frames changed
  stays : (n : Memory) (rest : List ℕ) → KeepsOthers (λ g. Table g ⊎ (In pool g × (In rest g → ⊥))) (l laid_in m) (l laid_in n) → (f : ℕ) → In rest f → In pool f → words (l laid_in n) f ≡ words (l laid_in m) f
  stays n rest others f left was = ap (λ o. cond (l.places.covers f) o None) (others (l.places.place f) (λ g changed e.
      let same : g ≡ f = mapping.distinct g f (own_is_covered g (⊎_elim (λ t. inr t) (λ taken. inl taken.0) changed)) (own_is_covered f (inl was)) e in
      ⊎_elim (λ t. fits.no_table f was (subst Table same t)) (λ taken. taken.1 (subst (In rest) (sym same) left)) changed))

  -- a map, which takes frames from the front of the pool
  pub map_keeps_free : (n : Memory) (taken rest : List ℕ) → pool ≡ taken ++ rest → KeepsOthers (λ f. Owns (l laid_in m) pool f × (In rest f → ⊥)) (l laid_in m) (l laid_in n) → KeepsFree l m pool [] n rest
  map_keeps_free n taken rest first others = record {
    came_back = λ f left back. absurd back;
    was_free = λ f left none. was f left;
    same_words = λ f left none. stays n rest (λ k no. others k (λ g uses. no g (⊎_elim (λ i. inr (i, uses.1)) (λ t. inl t) uses.0))) f left (was f left);
  }
    where
      was : (f : ℕ) → In rest f → In pool f
      was f left = subst (λ fs. In fs f) (sym first) (in_right taken rest f left)

  -- a call that takes no frame
  pub change_keeps_free : (n : Memory) → KeepsOthers Table (l laid_in m) (l laid_in n) → KeepsFree l m pool [] n pool
  change_keeps_free n others = map_keeps_free n [] pool refl (λ k no. others k (λ g t. no g (inr t, λ i. fits.no_table g i t)))

  -- a clean up
  pub clean_up_keeps_free : (take_back : List ℕ → ℕ → List ℕ) → TakesBack take_back → (n : Memory) (back rest : List ℕ) → rest ≡ with_returned take_back pool back → ((f : ℕ) → In back f → (i : ℕ) → word (words (l laid_in n)) f i ≡ 0)
      → KeepsOthers Table (l laid_in m) (l laid_in n) → KeepsFree l m pool back n rest
  clean_up_keeps_free take_back gives n back rest is empty others = record {
    came_back = λ f left came. empty f came;
    was_free = was;
    same_words = λ f left none. stays n rest (λ k no. others k (λ g t. no g (inl t))) f left (was f left none);
  }
    where
      was : (f : ℕ) → In rest f → (In back f → ⊥) → In pool f
      was f left none = ⊎_elim (λ came. absurd (none came)) (λ i. i) (in_append back pool f ((given_frames take_back gives pool back f).0 (subst (λ fs. In fs f) is left)))

-- a call on a page returns no frame
pub page_keeps_free : (l : Layout) (m : Memory) (pool : List ℕ) (level : ℕ) (call : Call) → IsOnPage level call → (n : Memory) (rest : List ℕ) → KeepsFree l m pool [] n rest
    → KeepsFree l m pool (freed_by l.levels (state_in l m pool) call) n rest
page_keeps_free l m pool level (CleanUp low high) on n rest keeps = cc
page_keeps_free l m pool level call on n rest keeps = keeps

-- ---- calls one after another

pub nothing_keeps_free : (l : Layout) (m : Memory) (pool : List ℕ) → KeepsFree l m pool [] m pool
nothing_keeps_free l m pool = record { came_back = λ f left back. absurd back; was_free = λ f left none. left; same_words = λ f left none. refl }

pub in_or_not : (fs : List ℕ) (f : ℕ) → In fs f ⊎ (In fs f → ⊥)
in_or_not [] f = inr (λ i. i)
in_or_not (g ∷ fs) f = by (g == f) refl (in_or_not fs f)
  where
    by : (b : Bool) → (g == f) ≡ b → In fs f ⊎ (In fs f → ⊥) → In (g ∷ fs) f ⊎ (In (g ∷ fs) f → ⊥)
    by true is further = inl (inl (eqb-true g f is))
    by false is further = ⊎_elim (λ i. inl (inr i)) (λ none. inr (λ i. ⊎_elim (eqb-false g f is) none i)) further

module _ (l : Layout) (m n o : Memory) (pool rest last back more : List ℕ) (one : KeepsFree l m pool back n rest) (next : KeepsFree l n rest more o last) where
  apart : (f : ℕ) → (In (back ++ more) f → ⊥) → (In back f → ⊥) × (In more f → ⊥)
  apart f none = (λ i. none (in_left back more f i), λ i. none (in_right back more f i))

  pub free_then : KeepsFree l m pool (back ++ more) o last
  free_then = record {
    came_back = λ f left came i. ⊎_elim (λ again. next.came_back f left again i)
        (λ never. same_word (words (l laid_in n)) (words (l laid_in o)) f i (next.same_words f left never) ∙ one.came_back f (next.was_free f left never) (⊎_elim (λ first. first) (λ again. absurd (never again)) (in_append back more f came)) i)
        (in_or_not more f);
    was_free = λ f left none. let never = apart f none in one.was_free f (next.was_free f left never.1) never.0;
    same_words = λ f left none. let never = apart f none in next.same_words f left never.1 ∙ one.same_words f (next.was_free f left never.1) never.0;
  }

-- the effect on free frames so far, with the frames that are still to be returned
pub record FreeSoFar (l : Layout) (m : Memory) (pool all left : List ℕ) (n : Memory) (rest : List ℕ) : Type 0 where
  pub back : List ℕ
  pub keeps : KeepsFree l m pool back n rest
  pub whole : back ++ left ≡ all

pub free_at_first : (l : Layout) (m : Memory) (pool all : List ℕ) → FreeSoFar l m pool all all m pool
free_at_first l m pool all = record { back = []; keeps = nothing_keeps_free l m pool; whole = refl }

pub free_next : (l : Layout) (m n o : Memory) (pool rest last all left one more : List ℕ) → FreeSoFar l m pool all left n rest → left ≡ one ++ more → KeepsFree l n rest one o last → FreeSoFar l m pool all more o last
free_next l m n o pool rest last all left one more so is next = record {
  back = so.back ++ one;
  keeps = free_then l m n o pool rest last so.back one so.keeps next;
  whole = append_assoc so.back one more ∙ ap (λ fs. so.back ++ fs) (sym is) ∙ so.whole;
}

pub free_at_last : (l : Layout) (m n : Memory) (pool rest all left : List ℕ) → FreeSoFar l m pool all left n rest → left ≡ [] → KeepsFree l m pool all n rest
free_at_last l m n pool rest all left so none = subst (λ back. KeepsFree l m pool back n rest) (sym (append-nil so.back) ∙ ap (λ fs. so.back ++ fs) (sym none) ∙ so.whole) so.keeps
