-- The clean up of one entry: the tables below the one that it names are removed first, and then it ends in one of three ways.
use Rattle.std.proofs.Common.{zero, suc, ◌≡◌, ◌≢◌, ◌⊎◌, inl, inr, ⊎_elim, ◌<◌, ℕ, true, false, List, [], ◌∷◌, ◌++◌, refl, sym, ap, ◌∙◌, subst, subst₂, arith}
use Rattle.std.proofs.lemmas.Bool.{cases_eq, cases_lt}
use Rattle.x86_64_model.proofs.Lemmas.CleanUps.Below.{cleaned_below, back_below}
use Rattle.x86_64_model.proofs.Lemmas.CleanUps.Removed.{in_range_parts}
use Rattle.x86_64_model.proofs.Lemmas.CleanUps.Visits.{visits_in_range}
use Rattle.x86_64_model.proofs.Lemmas.Entries.Bits.{used_present}
use Rattle.x86_64_model.proofs.Lemmas.Hierarchies.Held.{word_past}
use Rattle.x86_64_model.proofs.Lemmas.Hierarchies.Trees.{IsTree, tree_of_holds}
use Rattle.x86_64_model.proofs.Lemmas.Machines.Writes.{word_is_entry}
use Rattle.x86_64_model.proofs.Lemmas.Paths.Puts.{no_end}
use Rattle.x86_64_model.specs.CleanUp.{in_range}
use Rattle.x86_64_model.specs.Entry.{used, address}
use Rattle.x86_64_model.specs.Layout.{Layout}
use Rattle.x86_64_model.specs.Hierarchy.{◌laid_in◌, Valid, paths, words}
use Rattle.x86_64_model.specs.Memory.{Memory, Distinct, Words, word}
use Rattle.x86_64_model.specs.PathMap.{PathMap, entry, put}
use Rattle.x86_64_mappers.proofs.CleanUp.Cleaned.{cleaned_nothing, cleaned_then, cleaned_removed, outside_more}
use Rattle.x86_64_mappers.proofs.CleanUp.EntriesInRange.{IsNext}
use Rattle.x86_64_mappers.proofs.CleanUp.Visited.{still_below, still_at}
use Rattle.x86_64_mappers.specs.private.CleaningUp.{IsCleaned, IsCleanedAt, IsVisited}
use Rattle.x86_64_mappers.proofs.Memory.WordsRead.{words_read}
use Rattle.x86_64_mappers.specs.private.Writes.{IsSet}

-- one of the first words isn't 0, or all are
some_word : (T : Words) (f n : ℕ) → ((j : ℕ) × (word T f j ≢ 0)) ⊎ ((j : ℕ) → j < n → word T f j ≡ 0)
some_word T f zero = inr (λ j none. absurd (omega (arith, none)))
some_word T f (suc n) = ⊎_elim (λ some. inl some) (λ all. ⊎_elim
    (λ e. inr (λ j within. ⊎_elim (λ last. ap (word T f) last ∙ e) (λ other. all j (omega (arith, within, other))) (cases_eq j n)))
    (λ other. inl (n, other)) (cases_eq (word T f n) 0)) (some_word T f n)

-- a table that isn't empty has a used word
not_empty : (T : Words) (f : ℕ) → (((j : ℕ) → word T f j ≡ 0) → ⊥) → (j : ℕ) × (j < 512) × (word T f j ≢ 0)
not_empty T f n = ⊎_elim
    (λ some. (some.0, ⊎_elim (λ l. l) (λ past. absurd (some.1 (word_past T f some.0 past))) (cases_lt some.0 512), some.1))
    (λ all. absurd (n (λ j. ⊎_elim (all j) (word_past T f j) (cases_lt j 512)))) (some_word T f 512)

-- an entry that isn't in range
pub entry_stays : (l : Layout) (take_back : List ℕ → ℕ → List ℕ) (m : Memory) → Valid (l laid_in m) → (held : List ℕ) (low high : ℕ) (r : List ℕ) → in_range l.levels (paths (l laid_in m)) low high r ≡ false
    → IsCleanedAt l take_back m held low high r m held
entry_stays l take_back m valid held low high r out = record { N = paths (l laid_in m); back = []; rule = inl (out, refl, refl); cleaned = cleaned_nothing l take_back m valid held }

-- the tables below the one that the entry names were cleaned up
pub record IsBelowCleaned (l : Layout) (take_back : List ℕ → ℕ → List ℕ) (m : Memory) (held : List ℕ) (low high : ℕ) (q : List ℕ) (f i g : ℕ) (n : Memory) (rest : List ℕ) : Type 0 where
  pub next : IsNext l m low high q i g
  pub cleaned : IsCleaned l take_back m held (cleaned_below l.levels (paths (l laid_in m)) low high (q ++ i ∷ [])) (back_below l.levels (paths (l laid_in m)) low high (q ++ i ∷ [])) n rest
  pub here : IsVisited l n low high q f
  pub there : IsVisited l n low high (q ++ i ∷ []) g

pub below_cleaned : (l : Layout) (take_back : List ℕ → ℕ → List ℕ) (m : Memory) (held : List ℕ) (low high : ℕ) (q : List ℕ) (f i g : ℕ) → IsVisited l m low high q f → IsNext l m low high q i g
    → (n : Memory) (rest : List ℕ) (r : List ℕ) → r ≡ q ++ i ∷ [] → IsCleaned l take_back m held (cleaned_below l.levels (paths (l laid_in m)) low high r) (back_below l.levels (paths (l laid_in m)) low high r) n rest
    → IsBelowCleaned l take_back m held low high q f i g n rest
below_cleaned l take_back m held low high q f i g v next n rest r is cleaned =
    let c = subst (λ r. IsCleaned l take_back m held (cleaned_below l.levels (paths (l laid_in m)) low high r) (back_below l.levels (paths (l laid_in m)) low high r) n rest) is cleaned in record {
      next = next;
      cleaned = c;
      here = still_at l m low high q f v i n c.meant;
      there = still_below l m low high (q ++ i ∷ []) g next.visited n c.meant;
    }

module _ (l : Layout) (take_back : List ℕ → ℕ → List ℕ) (m : Memory) (valid : Valid (l laid_in m)) (held : List ℕ) (low high : ℕ) (q : List ℕ) (f i g : ℕ) (n : Memory) (rest : List ℕ)
    (b : IsBelowCleaned l take_back m held low high q f i g n rest) where
  abbrev L : ℕ
  L = l.levels

  abbrev M : PathMap
  M = paths (l laid_in m)

  abbrev r : List ℕ
  r = q ++ i ∷ []

  word_there : (j : ℕ) → j < 512 → word (words (l laid_in n)) g j ≡ entry (cleaned_below L M low high r) (r ++ j ∷ [])
  word_there j small = word_is_entry L l.window (words (l laid_in n)) l.root (paths (l laid_in n)) b.cleaned.valid r j g b.there.leads small (outside_more l.window q i j b.there.outside) ∙ ap (λ N. entry N (r ++ j ∷ [])) b.cleaned.meant

  -- a used word is left
  pub entry_kept : (((j : ℕ) → word (words (l laid_in n)) g j ≡ 0) → ⊥) → IsCleanedAt l take_back m held low high r n rest
  entry_kept some = let left = not_empty (words (l laid_in n)) g some in record {
    N = cleaned_below L M low high r;
    back = back_below L M low high r;
    rule = inr (inl (b.next.inside, (left.0, λ e. left.2 (word_there left.0 left.1 ∙ e)), refl, refl));
    cleaned = b.cleaned;
  }

  -- no used word is left, and the table is removed
  pub entry_gone : Distinct l.places → 0 < l.levels → i < 512 → ((j : ℕ) → word (words (l laid_in n)) g j ≡ 0)
      → (o : Memory) → IsSet l.places n f i 0 o → (left : List ℕ) → left ≡ take_back rest g → IsCleanedAt l take_back m held low high r o left
  entry_gone apart at_least_four small empty o set left gives =
      let in_use : used (entry (paths (l laid_in n)) r) ≡ true =
      used_present _ (in_range_parts L (paths (l laid_in n)) low high r (visits_in_range L (paths (l laid_in n)) low high r b.there.visits (λ e. no_end q i (sym e)))).1 in
      let removed = cleaned_removed l take_back apart at_least_four n b.cleaned.valid rest q i f b.here.leads small b.there.outside g b.there.leads in_use empty o set in
      record {
        N = put (cleaned_below L M low high r) r 0;
        back = back_below L M low high r ++ address (entry M r) ∷ [];
        rule = inr (inr (b.next.inside, (λ j. ⊎_elim (λ l. sym (word_there j l) ∙ empty j) (tree_below.small r j) (cases_lt j 512)), refl, refl));
        cleaned = subst (IsCleaned l take_back m held (put (cleaned_below L M low high r) r 0) (back_below L M low high r ++ address (entry M r) ∷ []) o) (sym gives)
            (subst₂ (λ N h. IsCleaned l take_back m held (put N r 0) (back_below L M low high r ++ h ∷ []) o (take_back rest g)) b.cleaned.meant b.next.is
            (cleaned_then l take_back apart m valid held (cleaned_below L M low high r) (back_below L M low high r) n rest b.cleaned (put (paths (l laid_in n)) r 0) (g ∷ []) o (take_back rest g) removed));
      }
    where
      tree_below : IsTree L l.root (cleaned_below L M low high r)
      tree_below = subst (IsTree L l.root) b.cleaned.meant (tree_of_holds L (words_read l n) l.root (paths (l laid_in n)) b.cleaned.valid.valid.holds)
