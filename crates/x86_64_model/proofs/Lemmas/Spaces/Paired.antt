-- Many address spaces that share in pairs, beside calls on one of them.
use Rattle.std.proofs.Common.{◌≡◌, ◌≢◌, inl, inr, ⊎_elim, ◌<◌, ℕ, Bool, true, false, List, [], ◌∷◌, Some, sym, ap, ◌∙◌, subst}
use Rattle.std.proofs.lemmas.Bool.{cases_Bool, cases_eq}
use Rattle.x86_64_model.specs.Hierarchy.{◌laid_in◌, PoolFits, paths}
use Rattle.x86_64_model.specs.Store.{KeepsPool}
use Rattle.x86_64_model.specs.Laws.Spaces.{KeepsRootEntries, StaysSharing, SpacesArePaired, PairedSpacesStay}
use Rattle.x86_64_model.specs.Layout.{Layout}
use Rattle.x86_64_model.specs.Lists.{In}
use Rattle.x86_64_model.specs.Memory.{Memory, IsMapping}
use Rattle.x86_64_model.specs.PathMap.{entry, table_at}
use Rattle.x86_64_model.specs.Spaces.{is_shared, Shares, IsSharing, ArePaired}
use Rattle.x86_64_model.proofs.Lemmas.Hierarchies.Held.{table_at_same}
use Rattle.x86_64_model.proofs.Lemmas.Spaces.Many.{shared_table}
use Rattle.x86_64_model.proofs.Lemmas.Spaces.Tables.{shared_tables_stay}

pub spaces_are_paired : SpacesArePaired
spaces_are_paired shared m serves pool spaces are = record { fits = are.fits; own_roots = are.own_roots; share = are.share }

module _ (sharing : (root other : ℕ) → ℕ → Bool) (is : IsSharing sharing) where
  shared_back : (a b : ℕ) (q : List ℕ) → is_shared (sharing a b) q ≡ true → is_shared (sharing b a) q ≡ true
  shared_back a b [] h = cc
  shared_back a b (i ∷ q) h = is.symmetric a b i h

  shared_on : (a b c : ℕ) (q : List ℕ) → is_shared (sharing a b) q ≡ true → is_shared (sharing b c) q ≡ true → is_shared (sharing a c) q ≡ true
  shared_on a b c [] h g = cc
  shared_on a b c (i ∷ q) h g = is.transitive a b c i h g

  module _ (spaces : List Layout) (one : Layout) (member : In spaces one) (mapping : IsMapping one.places) (some : 0 < one.levels) (serves : ℕ → Bool) (m n : Memory) (pool rest : List ℕ)
      (are : ArePaired sharing m serves pool spaces) (keeps : KeepsPool one serves m pool n rest)
      (kept : (b : Layout) → In spaces b → one.root ≢ b.root → KeepsRootEntries (sharing one.root b.root) one m n) where
    stay : (b : Layout) → In spaces b → one.root ≢ b.root → StaysSharing (sharing one.root b.root) one b serves m pool n rest
    stay b i apart = shared_tables_stay (sharing one.root b.root) one b mapping some serves m n pool rest (are.fits one member) keeps (kept b i apart) (are.share one b member i apart)

    fits_again : (b : Layout) → In spaces b → PoolFits (b laid_in n) serves rest
    fits_again b i = ⊎_elim
        (λ e. subst (λ (l : Layout). PoolFits (l laid_in n) serves rest) (are.own_roots one b member i e) keeps.fits)
        (λ apart. (stay b i apart).fits (are.fits b i))
        (cases_eq one.root b.root)

    -- two others, beside the one
    module _ (a b : Layout) (was : Shares (sharing a.root b.root) a m pool b) (x : StaysSharing (sharing one.root a.root) one a serves m pool n rest) (y : StaysSharing (sharing one.root b.root) one b serves m pool n rest) where
      -- the table at a path that another one shares with the one is the one's
      table_of_one : (c : Layout) → StaysSharing (sharing one.root c.root) one c serves m pool n rest → (q : List ℕ) (f : ℕ) → is_shared (sharing one.root c.root) q ≡ true
          → table_at c.levels c.root (paths (c laid_in n)) q ≡ Some f → table_at one.levels one.root (paths (one laid_in n)) q ≡ Some f
      table_of_one c z q f s leads = sym (shared_table (sharing one.root c.root) c.levels one.levels c.root one.root (paths (c laid_in n)) (paths (one laid_in n)) q z.shares.levels s (z.below_shared q s)) ∙ leads

      table_before : (c : Layout) → StaysSharing (sharing one.root c.root) one c serves m pool n rest → (q : List ℕ) (f : ℕ) → is_shared (sharing one.root c.root) q ≡ false
          → table_at c.levels c.root (paths (c laid_in n)) q ≡ Some f → table_at c.levels c.root (paths (c laid_in m)) q ≡ Some f
      table_before c z q f s leads = sym (table_at_same c.levels c.root (paths (c laid_in n)) (paths (c laid_in m)) q (z.elsewhere q s)) ∙ leads

      -- both or none share an index with the one that they share
      both : (q : List ℕ) → is_shared (sharing a.root b.root) q ≡ true → is_shared (sharing one.root a.root) q ≡ true → is_shared (sharing one.root b.root) q ≡ true
      both q s t = shared_on one.root a.root b.root q t s

      none : (q : List ℕ) → is_shared (sharing a.root b.root) q ≡ true → is_shared (sharing one.root a.root) q ≡ false → is_shared (sharing one.root b.root) q ≡ false
      none q s t = ⊎_elim
          (λ u. absurd (let z : true ≡ false = sym (shared_on one.root b.root a.root q u (shared_back a.root b.root q s)) ∙ t in cc))
          (λ f. f) (cases_Bool (is_shared (sharing one.root b.root) q))

      roots_again : (i : ℕ) → sharing a.root b.root i ≡ true → entry (paths (b laid_in n)) (i ∷ []) ≡ entry (paths (a laid_in n)) (i ∷ [])
      roots_again i s = ⊎_elim
          (λ t. y.below_shared (i ∷ []) (both (i ∷ []) s t) ∙ sym (x.below_shared (i ∷ []) t))
          (λ t. y.elsewhere (i ∷ []) (none (i ∷ []) s t) ∙ was.root_entries i s ∙ sym (x.elsewhere (i ∷ []) t))
          (cases_Bool (sharing one.root a.root i))

      clash : (q p : List ℕ) (f : ℕ) → is_shared (sharing a.root b.root) q ≡ false → table_at b.levels b.root (paths (b laid_in n)) q ≡ Some f → table_at a.levels a.root (paths (a laid_in n)) p ≡ Some f → ⊥
      clash q p f s leads other = ⊎_elim
          (λ u. ⊎_elim
          (λ t. let same : p ≡ q = keeps.fits.valid.valid.own_frames p q f (table_of_one a x p f t other) (table_of_one b y q f u leads) in
          let mine : is_shared (sharing one.root a.root) q ≡ true = ap (is_shared (sharing one.root a.root)) (sym same) ∙ t in
          let z : true ≡ false = sym (shared_on a.root one.root b.root q (shared_back one.root a.root q mine) u) ∙ s in cc)
          (λ t. x.shares.apart p f t other (inr (q, table_of_one b y q f u leads)))
          (cases_Bool (is_shared (sharing one.root a.root) p)))
          (λ u. ⊎_elim
          (λ t. y.shares.apart q f u leads (inr (p, table_of_one a x p f t other)))
          (λ t. was.apart q f s (table_before b y q f u leads) (inr (p, table_before a x p f t other)))
          (cases_Bool (is_shared (sharing one.root a.root) p)))
          (cases_Bool (is_shared (sharing one.root b.root) q))

      free : (q : List ℕ) (f : ℕ) → table_at b.levels b.root (paths (b laid_in n)) q ≡ Some f → In rest f → ⊥
      free q f leads i = ⊎_elim
          (λ u. keeps.fits.no_table f i (q, table_of_one b y q f u leads))
          (λ u. y.shares.apart q f u leads (inl i))
          (cases_Bool (is_shared (sharing one.root b.root) q))

      both_stay : Shares (sharing a.root b.root) a n rest b
      both_stay = record {
        places = was.places;
        levels = was.levels;
        valid = y.valid;
        root_entries = roots_again;
        apart = λ q f s leads. ⊎_elim (λ i. free q f leads i) (λ t. clash q t.0 f s leads t.1);
      }

    share_again : (a b : Layout) → In spaces a → In spaces b → a.root ≢ b.root → Shares (sharing a.root b.root) a n rest b
    share_again a b i j apart = ⊎_elim
        (λ e. subst (λ (l : Layout). Shares (sharing l.root b.root) l n rest b) (are.own_roots one a member i e) (stay b j (λ x. apart (sym e ∙ x))).shares)
        (λ na. ⊎_elim
        (λ e. subst (λ (l : Layout). Shares (sharing a.root l.root) a n rest l) (are.own_roots one b member j e) (turned a (stay a i na).first_shares))
        (λ nb. both_stay a b (are.share a b i j apart) (stay a i na) (stay b j nb))
        (cases_eq one.root b.root))
        (cases_eq one.root a.root)
      where
        -- sharing is the same seen from the other
        other_way : (a i : ℕ) → sharing one.root a i ≡ sharing a one.root i
        other_way a i = ⊎_elim
            (λ t. t ∙ sym (is.symmetric one.root a i t))
            (λ t. t ∙ sym (⊎_elim (λ u. absurd (let z : true ≡ false = sym (is.symmetric a one.root i u) ∙ t in cc)) (λ u. u) (cases_Bool (sharing a one.root i))))
            (cases_Bool (sharing one.root a i))

        turned : (a : Layout) → Shares (sharing one.root a.root) a n rest one → Shares (sharing a.root one.root) a n rest one
        turned a s = subst (λ (f : ℕ → Bool). Shares f a n rest one) (λ k i. other_way a.root i k) s

    pub paired_stay : ArePaired sharing n serves rest spaces
    paired_stay = record { fits = fits_again; own_roots = are.own_roots; share = share_again }

pub paired_spaces_stay : PairedSpacesStay
paired_spaces_stay sharing is spaces one member mapping some serves m n pool rest are keeps kept = paired_stay sharing is spaces one member mapping some serves m n pool rest are keeps kept
