-- Many address spaces, beside calls on one of them.
use Rattle.std.proofs.Common.{◌≡◌, ◌≢◌, inl, inr, ⊎_elim, ◌<◌, ℕ, Bool, true, false, List, [], ◌∷◌, Some, sym, ap, ap₂, ◌∙◌, subst}
use Rattle.std.proofs.lemmas.Bool.{cases_Bool, cases_eq}
use Rattle.x86_64_model.specs.Hierarchy.{◌laid_in◌, PoolFits, paths}
use Rattle.x86_64_model.specs.Store.{KeepsPool}
use Rattle.x86_64_model.specs.Laws.Spaces.{KeepsRootEntries, StaysSharing, OneIsASpace, SpacesStay}
use Rattle.x86_64_model.specs.Layout.{Layout}
use Rattle.x86_64_model.specs.Lists.{In}
use Rattle.x86_64_model.specs.Memory.{Memory, IsMapping}
use Rattle.x86_64_model.specs.PathMap.{PathMap, entry, table_of, table_at}
use Rattle.x86_64_model.specs.Spaces.{is_shared, Shares, AreSpaces}
use Rattle.x86_64_model.proofs.Lemmas.Hierarchies.Held.{table_at_same}
use Rattle.x86_64_model.proofs.Lemmas.Spaces.Tables.{shared_tables_stay}

-- below a shared index the table of an entry doesn't depend on the root
pub shared_table : (shared : ℕ → Bool) (L L' root root' : ℕ) (M N : PathMap) (q : List ℕ) → L ≡ L' → is_shared shared q ≡ true → entry M q ≡ entry N q → table_at L root M q ≡ table_at L' root' N q
shared_table shared L L' root root' M N [] l s e = cc
shared_table shared L L' root root' M N (i ∷ q) l s e = ap₂ (λ L e. table_of L (i ∷ q) e) l e

module _ (shared : ℕ → Bool) (spaces : List Layout) (one : Layout) (member : In spaces one) (mapping : IsMapping one.places) (some : 0 < one.levels) (serves : ℕ → Bool) (m n : Memory) (pool rest : List ℕ)
    (are : AreSpaces shared m serves pool spaces) (keeps : KeepsPool one serves m pool n rest) (kept : KeepsRootEntries shared one m n) where
  stay : (b : Layout) → In spaces b → one.root ≢ b.root → StaysSharing shared one b serves m pool n rest
  stay b i apart = shared_tables_stay shared one b mapping some serves m n pool rest (are.fits one member) keeps kept (are.share one b member i apart)

  fits_again : (b : Layout) → In spaces b → PoolFits (b laid_in n) serves rest
  fits_again b i = ⊎_elim
      (λ e. subst (λ (l : Layout). PoolFits (l laid_in n) serves rest) (are.own_roots one b member i e) keeps.fits)
      (λ apart. (stay b i apart).fits (are.fits b i))
      (cases_eq one.root b.root)

  -- two others, which share beside the one
  module _ (a b : Layout) (was : Shares shared a m pool b) (x : StaysSharing shared one a serves m pool n rest) (y : StaysSharing shared one b serves m pool n rest) where
    before : (q : List ℕ) (f : ℕ) → is_shared shared q ≡ false → table_at b.levels b.root (paths (b laid_in n)) q ≡ Some f → table_at b.levels b.root (paths (b laid_in m)) q ≡ Some f
    before q f s leads = sym (table_at_same b.levels b.root (paths (b laid_in n)) (paths (b laid_in m)) q (y.elsewhere q s)) ∙ leads

    no_table_of : (q p : List ℕ) (f : ℕ) → is_shared shared q ≡ false → table_at b.levels b.root (paths (b laid_in n)) q ≡ Some f → table_at a.levels a.root (paths (a laid_in n)) p ≡ Some f → ⊥
    no_table_of q p f s leads other = ⊎_elim
        (λ t. y.shares.apart q f s leads (inr (p, sym (shared_table shared a.levels one.levels a.root one.root (paths (a laid_in n)) (paths (one laid_in n)) p x.shares.levels t (x.below_shared p t)) ∙ other)))
        (λ u. was.apart q f s (before q f s leads) (inr (p, sym (table_at_same a.levels a.root (paths (a laid_in n)) (paths (a laid_in m)) p (x.elsewhere p u)) ∙ other)))
        (cases_Bool (is_shared shared p))

    both_stay : Shares shared a n rest b
    both_stay = record {
      places = was.places;
      levels = was.levels;
      valid = y.valid;
      root_entries = λ i s. y.below_shared (i ∷ []) s ∙ sym (x.below_shared (i ∷ []) s);
      apart = λ q f s leads. ⊎_elim (λ i. y.shares.apart q f s leads (inl i)) (λ t. no_table_of q t.0 f s leads t.1);
    }

  share_again : (a b : Layout) → In spaces a → In spaces b → a.root ≢ b.root → Shares shared a n rest b
  share_again a b i j apart = ⊎_elim
      (λ e. subst (λ (l : Layout). Shares shared l n rest b) (are.own_roots one a member i e) (stay b j (λ x. apart (sym e ∙ x))).shares)
      (λ na. ⊎_elim
      (λ e. subst (λ (l : Layout). Shares shared a n rest l) (are.own_roots one b member j e) (stay a i na).first_shares)
      (λ nb. both_stay a b (are.share a b i j apart) (stay a i na) (stay b j nb))
      (cases_eq one.root b.root))
      (cases_eq one.root a.root)

  pub stay_spaces : AreSpaces shared n serves rest spaces
  stay_spaces = record { fits = fits_again; own_roots = are.own_roots; share = share_again }

pub spaces_stay : SpacesStay
spaces_stay shared spaces one member mapping some serves m n pool rest are keeps kept = stay_spaces shared spaces one member mapping some serves m n pool rest are keeps kept

pub one_is_a_space : OneIsASpace
one_is_a_space shared one serves m pool fits = record {
  fits = λ a i. subst (λ (l : Layout). PoolFits (l laid_in m) serves pool) (only a i) fits;
  own_roots = λ a b i j e. sym (only a i) ∙ only b j;
  share = λ a b i j apart. absurd (apart (ap (λ (l : Layout). l.root) (sym (only a i) ∙ only b j)));
}
  where
    only : (a : Layout) → In (one ∷ []) a → one ≡ a
    only a i = ⊎_elim (λ e. e) (λ h. absurd h) i
