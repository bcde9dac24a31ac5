-- Two address spaces with pools of their own stay so.
use Rattle.std.proofs.Common.{◌≡◌, inl, inr, ⊎_elim, ℕ, Bool, true, false, List, [], ◌∷◌, Some, sym, ap, ◌∙◌, subst}
use Rattle.x86_64_model.specs.Call.{Call, Reply, IsCall}
use Rattle.x86_64_model.specs.Laws.Locality.{SameTable, SameOwned, IsTheSame, Leads, AreTwoSpaces, SpacesStayApart, OthersStayApart}
use Rattle.x86_64_model.specs.Layout.{Layout}
use Rattle.x86_64_model.specs.Lists.{In}
use Rattle.x86_64_model.specs.Hierarchy.{◌laid_in◌, Owns, paths, words}
use Rattle.x86_64_model.specs.Memory.{Memory, Places, words_of, IsMapping}
use Rattle.x86_64_model.specs.PathMap.{entry, table_of, table_at}
use Rattle.x86_64_model.specs.Pool.{IsOwn, TakesBack}
use Rattle.x86_64_model.specs.Spaces.{is_shared, Shares, Avoids}
use Rattle.x86_64_model.proofs.Lemmas.Live.Commute.{owns_or_not, others_stay}
use Rattle.x86_64_model.proofs.Lemmas.Live.Owned.{equal_tables, hierarchies_are_local}
use Rattle.x86_64_model.proofs.Lemmas.Live.Spaces.{keeps_below, leaves_shared, shared_by_a, shared_by_b}
use Rattle.x86_64_model.proofs.Lemmas.Spaces.Tables.{shared_tables_stay}

module _ (shared : ℕ → Bool) (a b : Layout) (m : Memory) (serves_a serves_b : ℕ → Bool)
    (pool_a pool_b : List ℕ) (spaces : AreTwoSpaces shared a b m serves_a serves_b pool_a pool_b)
    (take_a : List ℕ → ℕ → List ℕ) (gives : TakesBack take_a) (call : Call) (is : IsCall a.levels call)
    (off : Avoids a.levels shared call)
    (reply : Reply) (rest : List ℕ) (n : Memory)
    (leads : Leads a take_a serves_a call m pool_a reply n rest) where
  both : (f : ℕ) → Owns (a laid_in m) pool_a f → Owns (b laid_in m) pool_b f → (q : List ℕ)
      × (is_shared shared q ≡ true) × (table_at a.levels a.root (paths (a laid_in m)) q ≡ Some f)
  both f x y = shared_by_a shared a b m serves_a serves_b pool_a pool_b spaces f x y

  -- the other one depends on nothing that changed
  pub other_same : SameOwned b pool_b m n
  other_same f own = subst (λ (places : Places). SameTable (words_of m places) (words_of n places) f)
      (sym spaces.two.places) (⊎_elim
      (λ x. let at = both f x own in leaves_shared shared a spaces.adds_a take_a gives serves_a call is off m pool_a reply n rest spaces.two.fits_a leads at.0 f at.1 at.2)
      (λ none. equal_tables (words (a laid_in m)) (words (a laid_in n)) f
      (others_stay a spaces.two.mapping serves_a m n pool_a rest spaces.two.fits_a leads.keeps f none))
      (owns_or_not a spaces.two.some_a m pool_a f))

  other : IsTheSame b serves_b pool_b m n
  other = hierarchies_are_local b spaces.two.some_b serves_b m n pool_b spaces.two.fits_b other_same

  below : (q : List ℕ) → is_shared shared q ≡ true
      → entry (paths (a laid_in n)) q ≡ entry (paths (a laid_in m)) q
  below = keeps_below shared a spaces.adds_a take_a gives serves_a call is off m pool_a reply n rest spaces.two.fits_a leads

  shares_still : Shares shared a n rest b
  shares_still =
      (shared_tables_stay shared a b spaces.two.mapping spaces.two.some_a serves_a m n pool_a rest spaces.two.fits_a leads.keeps (λ i on. below (i ∷ []) on) spaces.shares_a).shares

  -- what the other one owns now it owned before
  owned_by_other : (f : ℕ) → Owns (b laid_in n) pool_b f → Owns (b laid_in m) pool_b f
  owned_by_other f own = subst (λ M. IsOwn b.levels b.root M pool_b f) other.paths own

  still_shared : (q : List ℕ) (f : ℕ) → is_shared shared q ≡ true
      → table_at a.levels a.root (paths (a laid_in m)) q ≡ Some f
      → table_at a.levels a.root (paths (a laid_in n)) q ≡ Some f
  still_shared [] f on at = absurd (let x : false ≡ true = on in cc)
  still_shared (k ∷ r) f on at = ap (table_of a.levels (k ∷ r)) (below (k ∷ r) on) ∙ at

  apart_still : (q : List ℕ) (f : ℕ) → is_shared shared q ≡ false
      → table_at a.levels a.root (paths (a laid_in n)) q ≡ Some f → Owns (b laid_in n) pool_b f → ⊥
  apart_still q f un at own =
      let x = both f ((leads.keeps.conserved f).1 (inr (q, at))) (owned_by_other f own) in
      let same : q ≡ x.0 = leads.keeps.fits.valid.valid.own_frames q x.0 f at (still_shared x.0 f x.1 x.2) in
      let t : true ≡ false = sym x.1 ∙ ap (is_shared shared) (sym same) ∙ un in cc

  pools_still : (f : ℕ) → In rest f → In pool_b f → ⊥
  pools_still f x y = let at = shared_by_b shared a b m serves_a serves_b pool_a pool_b spaces f
      ((leads.keeps.conserved f).1 (inl x)) (inl y) in spaces.two.fits_b.no_table f y (at.0, at.2)

  pub apart_after : AreTwoSpaces shared a b n serves_a serves_b rest pool_b
  apart_after = record {
    two = record { places = spaces.two.places; mapping = spaces.two.mapping; some_a = spaces.two.some_a; some_b = spaces.two.some_b; fits_a = leads.keeps.fits; fits_b = other.fits };
    adds_a = spaces.adds_a;
    adds_b = spaces.adds_b;
    shares_a = shares_still;
    shares_b = record {
      places = spaces.shares_b.places;
      levels = spaces.shares_b.levels;
      valid = leads.keeps.fits.valid;
      root_entries = λ i on. sym (shares_still.root_entries i on);
      apart = apart_still;
    };
    pools = pools_still;
  }

pub spaces_stay_apart : SpacesStayApart
spaces_stay_apart shared a b m serves_a serves_b pool_a pool_b spaces take_a gives call is off reply rest n leads = (
  other_same shared a b m serves_a serves_b pool_a pool_b spaces take_a gives call is off reply rest n leads,
  apart_after shared a b m serves_a serves_b pool_a pool_b spaces take_a gives call is off reply rest n leads,
)

-- ---- any two of which nothing changed

module _ (shared : ℕ → Bool) (a b : Layout) (m n : Memory) (serves_a serves_b : ℕ → Bool)
    (pool_a pool_b : List ℕ) (still_a : IsTheSame a serves_a pool_a m n)
    (still_b : IsTheSame b serves_b pool_b m n) where
  shares_again : Shares shared a m pool_a b → Shares shared a n pool_a b
  shares_again is = record {
    places = is.places;
    levels = is.levels;
    valid = still_b.fits.valid;
    root_entries = λ i on. ap (λ M. entry M (i ∷ [])) still_b.paths ∙ is.root_entries i on
        ∙ sym (ap (λ M. entry M (i ∷ [])) still_a.paths);
    apart = λ q f un at own. is.apart q f un
        (sym (ap (λ M. table_at b.levels b.root M q) still_b.paths) ∙ at)
        (subst (λ M. IsOwn a.levels a.root M pool_a f) still_a.paths own);
  }

pub others_stay_apart : OthersStayApart
others_stay_apart shared a b m n serves_a serves_b pool_a pool_b spaces same_a same_b =
    let still_a = hierarchies_are_local a spaces.two.some_a serves_a m n pool_a spaces.two.fits_a same_a in
    let still_b = hierarchies_are_local b spaces.two.some_b serves_b m n pool_b spaces.two.fits_b same_b in
    let first = shares_again shared a b m n serves_a serves_b pool_a pool_b still_a still_b spaces.shares_a in
    let second = shares_again shared b a m n serves_b serves_a pool_b pool_a still_b still_a spaces.shares_b in (
      record {
        two = record { places = spaces.two.places; mapping = spaces.two.mapping; some_a = spaces.two.some_a; some_b = spaces.two.some_b; fits_a = still_a.fits; fits_b = still_b.fits };
        adds_a = spaces.adds_a;
        adds_b = spaces.adds_b;
        shares_a = first;
        shares_b = second;
        pools = spaces.pools;
      },
      record {
        two = record {
          places = sym spaces.two.places;
          mapping = subst IsMapping
              (sym spaces.two.places) spaces.two.mapping;
          some_a = spaces.two.some_b;
          some_b = spaces.two.some_a;
          fits_a = still_b.fits;
          fits_b = still_a.fits;
        };
        adds_a = spaces.adds_b;
        adds_b = spaces.adds_a;
        shares_a = second;
        shares_b = first;
        pools = λ f x y. spaces.pools f y x;
      },
    )
