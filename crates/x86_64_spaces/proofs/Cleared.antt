-- Address spaces stay when the root of one that was given up is cleared, since it is a free frame then.
use Rattle.std.proofs.Common.{◌≡◌, ◌≢◌, ◌⊎◌, inl, inr, ⊎_elim, ◌<◌, ℕ, Bool, true, cond, List, [], ◌∷◌, Some, None, IsSome, refl, sym, ap, ◌∙◌, subst}
use Rattle.std.proofs.lemmas.Bool.{cases_eq}
use Rattle.x86_64_model.specs.Hierarchy.{◌laid_in◌, KeepsOthers, Owns, PoolFits, Valid, paths, words}
use Rattle.x86_64_model.specs.Layout.{Layout}
use Rattle.x86_64_model.specs.Lists.{In}
use Rattle.x86_64_model.specs.Memory.{Memory, Places, IsMapping, words_of}
use Rattle.x86_64_model.specs.PathMap.{PathMap, entry, table_at}
use Rattle.x86_64_model.specs.Spaces.{Shares, AreSpaces}
use Rattle.x86_64_model.proofs.Lemmas.Hierarchies.Memories.{covered}
use Rattle.x86_64_model.proofs.Lemmas.Spaces.NewOnes.{unchanged_paths, unchanged_valid}
use Rattle.x86_64_model.proofs.Lemmas.Tables.Exact.{inside_window}

module _ (shared : ℕ → Bool) (gone : Layout) (spaces : List Layout) (once : In spaces gone → ⊥) (mapping : IsMapping gone.places) (some : 0 < gone.levels) (back : List ℕ) (serves : ℕ → Bool)
    (m n : Memory) (pool : List ℕ) (are : AreSpaces shared m serves pool (gone ∷ spaces)) (after : AreSpaces shared m serves back spaces) (free : In back gone.root)
    (others : KeepsOthers (λ f. f ≡ gone.root) (gone laid_in m) (gone laid_in n)) (there : IsSome (words (gone laid_in n) gone.root)) where
  root_covered : gone.places.covers gone.root ≡ true
  root_covered = covered n gone.places gone.root there

  same_words : (g : ℕ) → IsSome (words_of m gone.places g) → g ≢ gone.root → words_of n gone.places g ≡ words_of m gone.places g
  same_words g h apart = ap (λ o. cond (gone.places.covers g) o None) (others (gone.places.place g) (λ f e p.
      apart (sym (mapping.distinct gone.root g root_covered (covered m gone.places g h) (ap gone.places.place (sym e) ∙ p)))))

  module _ (a : Layout) (i : In spaces a) where
    beside : Shares shared a m pool gone
    beside = are.share a gone (inr i) (inl refl) (λ e. once (subst (In spaces) (are.own_roots a gone (inr i) (inl refl) e) i))

    levels_of : 0 < a.levels
    levels_of = subst (λ n. 0 < n) beside.levels some

    words_stay : (g : ℕ) → IsSome (words (a laid_in m) g) → g ≢ gone.root → words (a laid_in n) g ≡ words (a laid_in m) g
    words_stay = subst (λ (p : Places). (g : ℕ) → IsSome (words_of m p g) → g ≢ gone.root → words_of n p g ≡ words_of m p g) beside.places same_words

    tables_stay : (q : List ℕ) (g : ℕ) → table_at a.levels a.root (paths (a laid_in m)) q ≡ Some g → words (a laid_in n) g ≡ words (a laid_in m) g
    tables_stay q g leads = let fits = after.fits a i in words_stay g (inside_window a.window a.root (words (a laid_in m)) g (fits.valid.valid.holds.in_memory q g leads))
        (λ e. fits.no_table gone.root free (q, leads ∙ ap Some e))

    pub paths_stay : paths (a laid_in m) ≡ paths (a laid_in n)
    paths_stay = unchanged_paths a levels_of m n (after.fits a i).valid tables_stay

    valid_now : Valid (a laid_in n)
    valid_now = unchanged_valid a levels_of m n (after.fits a i).valid tables_stay

    before : (q : List ℕ) (g : ℕ) → table_at a.levels a.root (paths (a laid_in n)) q ≡ Some g → table_at a.levels a.root (paths (a laid_in m)) q ≡ Some g
    before q g = subst (λ (M : PathMap). table_at a.levels a.root M q ≡ Some g) (sym paths_stay)

    fits_now : PoolFits (a laid_in n) serves back
    fits_now = let was = after.fits a i in record {
      valid = valid_now;
      each_once = was.each_once;
      in_memory = λ g h. ⊎_elim
          (λ e. subst (λ g. IsSome (words (a laid_in n) g)) (sym e) (subst (λ (p : Places). IsSome (words_of n p gone.root)) beside.places there))
          (λ apart. subst IsSome (sym (words_stay g (was.in_memory g h) apart)) (was.in_memory g h))
          (cases_eq g gone.root);
      are_frames = was.are_frames;
      not_zero = was.not_zero;
      no_table = λ g h t. was.no_table g h (t.0, before t.0 g t.1);
      serves_pool = was.serves_pool;
      serves_tables = λ k q g leads. was.serves_tables k q g (before (k ∷ q) g leads);
    }

    pub owned_now : (g : ℕ) → Owns (a laid_in m) back g → Owns (a laid_in n) back g
    owned_now g = subst (λ (M : PathMap). Owns (a laid_in m) back g → In back g ⊎ ((q : List ℕ) × (table_at a.levels a.root M q ≡ Some g))) paths_stay (λ own. own)

  share_now : (a b : Layout) → In spaces a → In spaces b → a.root ≢ b.root → Shares shared a n back b
  share_now a b i j apart = let was = after.share a b i j apart in record {
    places = was.places;
    levels = was.levels;
    valid = valid_now b j;
    root_entries = λ k on. ap (λ (M : PathMap). entry M (k ∷ [])) (sym (paths_stay b j)) ∙ was.root_entries k on ∙ ap (λ (M : PathMap). entry M (k ∷ [])) (paths_stay a i);
    apart = λ q g off leads own. was.apart q g off (before b j q g leads) (⊎_elim (λ h. inl h) (λ t. inr (t.0, before a i t.0 g t.1)) own);
  }

  pub spaces_now : AreSpaces shared n serves back spaces
  spaces_now = record { fits = fits_now; own_roots = after.own_roots; share = share_now }
