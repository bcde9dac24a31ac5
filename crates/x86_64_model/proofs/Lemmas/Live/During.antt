-- An entry that is exchanged while calls go on elsewhere.
use Rattle.std.proofs.Common.{◌≡◌, ◌⊎◌, inl, inr, ⊎_elim, ◌<◌, ℕ, Bool, List, Some, None, Option, IsSome, sym, ap, ap₂, ◌∙◌, subst}
use Rattle.std.specs.List.{AllByRecursion}
use Rattle.x86_64_model.specs.Laws.EntriesInPlace.{IsInPlace, MayReplace, OneChanged, with_word}
use Rattle.x86_64_model.specs.Laws.Live.{ExchangesDuringCalls}
use Rattle.x86_64_model.specs.Laws.Locality.{SameOwned, IsTheSame}
use Rattle.x86_64_model.specs.Layout.{Layout}
use Rattle.x86_64_model.specs.Hierarchy.{◌laid_in◌, Owns, PoolFits, paths, words}
use Rattle.x86_64_model.specs.Memory.{Memory, Words, IsMapping, word, set_word}
use Rattle.x86_64_model.specs.PathMap.{entry, put}
use Rattle.x86_64_model.specs.Store.{KeepsPool}
use Rattle.x86_64_model.specs.Turns.{Turn, AllSee, after_turns, turns_of, KeepsApart}
use Rattle.x86_64_model.proofs.Lemmas.Hierarchies.Held.{word-set_same}
use Rattle.x86_64_model.proofs.Lemmas.Live.Changed.{one_changed, words_with_word}
use Rattle.x86_64_model.proofs.Lemmas.Live.Owned.{hierarchies_are_local}
use Rattle.x86_64_model.proofs.Lemmas.Live.Turns.{all_there, same_end, same_spot, set_other}
use Rattle.x86_64_model.proofs.Lemmas.Machines.Fitting.{own_there}

module _ (l : Layout) (mapping : IsMapping l.places) (some : 0 < l.levels)
    (owner : (frame i : ℕ) → Option ℕ) (m n : Memory) (turns : List Turn)
    (apart : AllByRecursion (KeepsApart owner) turns) (see : AllSee (words (l laid_in m)) turns)
    (ends : words (l laid_in n) ≡ after_turns (words (l laid_in m)) turns)
    (k : ℕ) (serves : ℕ → Bool) (pool rest : List ℕ) (fits : PoolFits (l laid_in m) serves pool)
    (f i : ℕ) (own : (h : ℕ) → Owns (l laid_in m) pool h → (j : ℕ) → ((h ≡ f) × (j ≡ i))
    ⊎ ((owner h j ≡ Some k) ⊎ (owner h j ≡ None)))
    (alone : Memory) (alone_ends : words (l laid_in alone)
    ≡ after_turns (words (l laid_in m)) (turns_of k turns))
    (keeps : KeepsPool l serves m pool alone rest)
    (q : List ℕ) (place : IsInPlace l alone q f i)
    (replace : MayReplace l.levels q (entry (paths (l laid_in alone)) q)
    (word (words (l laid_in n)) f i)) where
  abbrev T : Words
  T = words (l laid_in m)

  abbrev w : ℕ
  w = word (words (l laid_in n)) f i

  -- the calls first, and then the one word
  abbrev then_changed : Memory
  then_changed = with_word l alone f i w

  changed : OneChanged l serves rest alone q w then_changed
  changed = one_changed l mapping some serves alone rest keeps.fits q f i w place replace

  words_then : words (l laid_in then_changed) ≡ set_word (words (l laid_in alone)) f i w
  words_then = words_with_word l mapping alone f i w place.table place.there

  owned_before : (h : ℕ) → Owns (l laid_in then_changed) rest h → Owns (l laid_in m) pool h
  owned_before h owned = (keeps.conserved h).1 ((changed.keeps.conserved h).1 owned)

  same_now : (h : ℕ) → Owns (l laid_in m) pool h → (j : ℕ)
      → word (words (l laid_in n)) h j ≡ word (words (l laid_in then_changed)) h j
  same_now h owned j = ⊎_elim
      (λ at. ap₂ (word (words (l laid_in n))) at.0 at.1
      ∙ sym (ap₂ (word (words (l laid_in then_changed))) at.0 at.1
      ∙ ap (λ (U : Words). word U f i) words_then
      ∙ word-set_same (words (l laid_in alone)) f i w place.table place.there place.within place.small))
      (λ off. ap (λ (U : Words). word U h j) ends
      ∙ same_end owner k T turns apart see h j
      (⊎_elim (λ at. absurd (clash at off)) (λ its. its) (own h owned j))
      ∙ sym (ap (λ (U : Words). word U h j) alone_ends)
      ∙ sym (ap (λ (U : Words). word U h j) words_then ∙ set_other (words (l laid_in alone)) f i w h j off))
      (same_spot h j f i)
    where
      clash : (h ≡ f) × (j ≡ i) → ((h ≡ f) → ⊥) ⊎ ((j ≡ i) → ⊥) → ⊥
      clash at (inl n) = n at.0
      clash at (inr n) = n at.1

  same_owned : SameOwned l rest then_changed n
  same_owned h owned = record {
    there = λ x. subst (λ (U : Words). IsSome (U h)) (sym ends)
        (all_there owner T turns h (own_there l.levels l.window T l.root serves
        (record { paths = paths (l laid_in m); pool = pool }) fits h (owned_before h owned)));
    words = same_now h (owned_before h owned);
  }

  pub during : IsTheSame l serves rest then_changed n
  during = hierarchies_are_local l some serves then_changed n rest changed.keeps.fits same_owned

  pub entries_then : paths (l laid_in then_changed) ≡ put (paths (l laid_in alone)) q w
  entries_then = changed.changed

pub exchanges_during_calls : ExchangesDuringCalls
exchanges_during_calls l mapping some owner m n turns apart see ends k serves pool rest fits f i own alone alone_ends keeps q place replace =
    let is = during l mapping some owner m n turns apart see ends k serves pool rest fits f i own alone alone_ends keeps q place replace in (
      is.fits,
      is.paths
          ∙ entries_then l mapping some owner m n turns apart see ends k serves pool rest fits f i own alone alone_ends keeps q place replace,
    )
