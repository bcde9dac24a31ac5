-- Several pools that fit the same address spaces.
use Rattle.std.proofs.Common.{◌≡◌, ◌≢◌, ◌⊎◌, inl, inr, ⊎_elim, ◌<◌, ℕ, Bool, true, List, [], ◌∷◌, Some, IsSome, sym, ap, ◌∙◌, subst}
use Rattle.std.proofs.lemmas.Bool.{cases_Bool, cases_eq}
use Rattle.x86_64_model.specs.Laws.Locality.{PoolsStayApart}
use Rattle.x86_64_model.specs.Laws.Spaces.{StaysSharing, KeepsRootEntries}
use Rattle.x86_64_model.specs.Layout.{Layout}
use Rattle.x86_64_model.specs.Lists.{In}
use Rattle.x86_64_model.specs.Hierarchy.{◌laid_in◌, Owns, PoolFits, paths, words}
use Rattle.x86_64_model.specs.Memory.{Memory, Places, IsMapping, words_of}
use Rattle.x86_64_model.specs.PathMap.{entry, table_of, table_at}
use Rattle.x86_64_model.specs.Pool.{IsTable}
use Rattle.x86_64_model.specs.Spaces.{is_shared, Shares, AreSpaces}
use Rattle.x86_64_model.specs.Store.{KeepsPool}
use Rattle.x86_64_model.proofs.Lemmas.Live.Commute.{others_stay}
use Rattle.x86_64_model.proofs.Lemmas.Spaces.Many.{spaces_stay}
use Rattle.x86_64_model.proofs.Lemmas.Spaces.Tables.{shared_tables_stay}

module _ (shared : ℕ → Bool) (spaces : List Layout) (one : Layout) (listed : In spaces one)
    (mapping : IsMapping one.places) (some : 0 < one.levels)
    (serves serves' : ℕ → Bool) (serves_all : (f : ℕ) → serves f ≡ true → serves' f ≡ true) (m n : Memory)
    (pool rest other : List ℕ)
    (are : AreSpaces shared m serves pool spaces) (others : AreSpaces shared m serves' other spaces)
    (apart : (f : ℕ) → In pool f → In other f → ⊥)
    (keeps : KeepsPool one serves m pool n rest) (kept : KeepsRootEntries shared one m n) where
  after : AreSpaces shared n serves rest spaces
  after = spaces_stay shared spaces one listed mapping some serves m n pool rest are keeps kept

  -- the other pool's frames were neither free for the calls nor tables
  not_owned : (f : ℕ) → In other f → Owns (one laid_in m) pool f → ⊥
  not_owned f k (inl free) = apart f free k
  not_owned f k (inr table) = (others.fits one listed).no_table f k table

  not_owned_now : (f : ℕ) → In other f → Owns (one laid_in n) rest f → ⊥
  not_owned_now f k own = not_owned f k ((keeps.conserved f).1 own)

  module _ (a : Layout) (its : In spaces a) where
    same_or_shares : (a ≡ one) ⊎ Shares shared one m pool a
    same_or_shares = ⊎_elim (λ e. inl (are.own_roots a one its listed e))
        (λ e. inr (are.share one a listed its (λ z. e (sym z)))) (cases_eq a.root one.root)

    same_places : a.places ≡ one.places
    same_places = ⊎_elim (λ e. ap (λ (l : Layout). l.places) e)
        (λ (shares : Shares shared one m pool a). shares.places) same_or_shares

    there_now : (f : ℕ) → In other f → IsSome (words (a laid_in n) f)
    there_now f k = subst (λ (places : Places). IsSome (words_of n places f)) (sym same_places)
        (subst (λ o. IsSome o)
        (sym (others_stay one mapping serves m n pool rest (are.fits one listed) keeps f
        (not_owned f k))) ((others.fits one listed).in_memory f k))

    -- and are no tables now
    no_table_now : (f : ℕ) → In other f → IsTable a.levels a.root (paths (a laid_in n)) f → ⊥
    no_table_now f k table = ⊎_elim
        (λ e. not_owned_now f k (inr (subst (λ (l : Layout). IsTable l.levels l.root
        (paths (l laid_in n)) f) e table)))
        (λ shares. by shares (shared_tables_stay shared one a mapping some serves m n pool rest
        (are.fits one listed) keeps kept shares) table.0 table.1)
        same_or_shares
      where
        by : Shares shared one m pool a → StaysSharing shared one a serves m pool n rest → (q : List ℕ)
            → table_at a.levels a.root (paths (a laid_in n)) q ≡ Some f → ⊥
        by shares stays [] leads = (others.fits a its).no_table f k ([], leads)
        by shares stays (i ∷ q) leads = ⊎_elim
            (λ on. not_owned_now f k
            (inr (
              i ∷ q,
              ap (table_of one.levels (i ∷ q)) (sym (stays.below_shared (i ∷ q) on))
                  ∙ ap (λ L. table_of L (i ∷ q) (entry (paths (a laid_in n)) (i ∷ q))) (sym shares.levels)
                  ∙ leads,
            )))
            (λ off. (others.fits a its).no_table f k
            (i ∷ q, ap (table_of a.levels (i ∷ q)) (sym (stays.elsewhere (i ∷ q) off)) ∙ leads))
            (cases_Bool (is_shared shared (i ∷ q)))

    fits_now : PoolFits (a laid_in n) serves' other
    fits_now = record {
      valid = (after.fits a its).valid;
      each_once = (others.fits a its).each_once;
      in_memory = there_now;
      are_frames = (others.fits a its).are_frames;
      not_zero = (others.fits a its).not_zero;
      no_table = no_table_now;
      serves_pool = (others.fits a its).serves_pool;
      serves_tables = λ i q f leads. serves_all f ((after.fits a its).serves_tables i q f leads);
    }

  share_now : (a b : Layout) → In spaces a → In spaces b → a.root ≢ b.root → Shares shared a n other b
  share_now a b x y roots = let is = after.share a b x y roots in record {
    places = is.places;
    levels = is.levels;
    valid = is.valid;
    root_entries = is.root_entries;
    apart = λ q f off leads own. ⊎_elim (λ k. no_table_now b y f k (q, leads))
        (λ table. is.apart q f off leads (inr table)) own;
  }

  pub still_spaces : AreSpaces shared n serves' other spaces
  still_spaces = record { fits = λ a its. fits_now a its; own_roots = after.own_roots; share = share_now }

  pub still_apart : (f : ℕ) → In rest f → In other f → ⊥
  still_apart f free k = not_owned_now f k (inl free)

pub pools_stay_apart : PoolsStayApart
pools_stay_apart shared spaces one listed mapping some serves serves' serves_all m n pool rest other are others apart keeps kept = (
  still_spaces shared spaces one listed mapping some serves serves' serves_all m n pool rest other are others apart keeps kept,
  still_apart shared spaces one listed mapping some serves serves' serves_all m n pool rest other are others apart keeps kept,
)
