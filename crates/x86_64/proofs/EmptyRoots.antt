-- Roots whose words are all 0, beside other address spaces.
use Rattle.std.proofs.Common.{◌≡◌, ◌≢◌, ◌<◌, inl, inr, ⊎_elim, Bool, get_or, nat_lt, ℕ, zero, suc, true, false, cond, List, [], ◌∷◌, replicate, Some, None, IsSome, refl, sym, ap, ◌∙◌, subst}
use Rattle.std.proofs.lemmas.Bool.{cases_eq, eqb-false}
use Rattle.std.proofs.lemmas.Option.{none-some, same_Some}
use Rattle.std.specs.FinMap.{empty, insert}
use Rattle.std.specs.Ordering.{nat_cmp}
use Rattle.x86_64_model.specs.Entry.{address, is_frame}
use Rattle.x86_64_model.specs.Validity.{IsValid}
use Rattle.x86_64_model.specs.Hierarchy.{◌laid_in◌, Owns, PoolFits, Valid, paths, words}
use Rattle.x86_64_model.specs.Layout.{Layout}
use Rattle.x86_64_model.specs.Lists.{In}
use Rattle.x86_64_model.specs.Memory.{Memory, Places, word, word_in, words_of, identity_places}
use Rattle.x86_64_model.specs.PathMap.{table_at}
use Rattle.x86_64_model.specs.Pool.{IsTable}
use Rattle.x86_64_model.specs.Spaces.{Shares, AreSpaces}
use Rattle.x86_64_model.specs.Window.{IsValidFor}
use Rattle.x86_64_model.proofs.Lemmas.Hierarchies.Empty.{empty_valid, leads_nowhere}
use Rattle.x86_64_model.proofs.Lemmas.Hierarchies.Exists.{held_is_paths_of}
use Rattle.x86_64_model.proofs.Lemmas.Spaces.Many.{one_is_a_space}
use Rattle.x86_64_model.proofs.Lemmas.Worked.FourLevels.{get_it}
use Rattle.x86_64_mappers.specs.Layouts.{direct_at, HasRoot}
use Rattle.x86_64.specs.EmptyRoots.{EmptyRootsShareNothing, EmptyRootsAreSpaces, TwoEmptyRoots}

module _ (levels : ℕ) (at_least_four : 0 < levels) (places : Places) (root : ℕ) (m : Memory) (there : HasRoot places root m)
    (zeros : (i : ℕ) → word (words_of m places) root i ≡ 0) where
  empty_is_valid : IsValid levels (words_of m places) root empty
  empty_is_valid = empty_valid levels (words_of m places) root there zeros

  nothing_mapped : paths (direct_at levels places root laid_in m) ≡ empty
  nothing_mapped = sym (held_is_paths_of levels (words_of m places) root at_least_four empty empty_is_valid.holds)

  pub root_is_valid : Valid (direct_at levels places root laid_in m)
  root_is_valid = subst (IsValidFor levels None (words_of m places) root) (sym nothing_mapped) (record { valid = empty_is_valid; self = tt })

  by_path : (f : ℕ) → IsTable levels root empty f → root ≡ f
  by_path f ([], e) = same_Some root f e
  by_path f (i ∷ q, e) = absurd (none-some f (sym (leads_nowhere levels root i q) ∙ e))

  -- the root is the only table
  pub only_root : (f : ℕ) → IsTable levels root (paths (direct_at levels places root laid_in m)) f → root ≡ f
  only_root f table = by_path f (subst (λ M. IsTable levels root M f) nothing_mapped table)

pub empty_roots_share_nothing : EmptyRootsShareNothing
empty_roots_share_nothing first m pool root some there zeros free = record {
  places = refl;
  levels = refl;
  valid = root_is_valid first.levels some first.places root m there zeros;
  root_entries = λ i s. cc;
  apart = λ q f s leads own. free (subst (Owns (first laid_in m) pool) (sym (only_root first.levels some first.places root m there zeros f (q, leads))) own);
}

-- ---- beside address spaces that share nothing

-- address spaces have one mapping and number of levels
pub alike : (shared : ℕ → Bool) (spaces : List Layout) (serves : ℕ → Bool) (m : Memory) (pool : List ℕ) → AreSpaces shared m serves pool spaces → (a b : Layout) → In spaces a → In spaces b → (b.places ≡ a.places) × (b.levels ≡ a.levels)
alike shared spaces serves m pool are a b i j = ⊎_elim
    (λ e. let same = are.own_roots b a j i e in (ap (λ (l : Layout). l.places) same, ap (λ (l : Layout). l.levels) same))
    (λ apart. let s = are.share a b i j (λ e. apart (sym e)) in (s.places, s.levels))
    (cases_eq b.root a.root)

module _ (spaces : List Layout) (first : Layout) (member : In spaces first) (some : 0 < first.levels) (serves : ℕ → Bool) (m : Memory) (pool : List ℕ)
    (are : AreSpaces (λ i. false) m serves pool spaces) (root : ℕ) (there : HasRoot first.places root m) (zeros : (i : ℕ) → word (words (first laid_in m)) root i ≡ 0)
    (free : (a : Layout) → In spaces a → Owns (a laid_in m) pool root → ⊥) where
  abbrev new : Layout
  new = direct_at first.levels first.places root

  is_root : (f : ℕ) → IsTable first.levels root (paths (new laid_in m)) f → root ≡ f
  is_root = only_root first.levels some first.places root m there zeros

  new_fits : PoolFits (new laid_in m) serves pool
  new_fits = let was = are.fits first member in record {
    valid = root_is_valid first.levels some first.places root m there zeros;
    each_once = was.each_once;
    in_memory = was.in_memory;
    are_frames = was.are_frames;
    not_zero = was.not_zero;
    no_table = λ f i t. free first member (inl (subst (In pool) (sym (is_root f t)) i));
    serves_pool = was.serves_pool;
    serves_tables = λ i q f leads. absurd (none-some f (sym (leads_nowhere first.levels root i q)
        ∙ subst (λ M. table_at first.levels root M (i ∷ q) ≡ Some f) (nothing_mapped first.levels some first.places root m there zeros) leads));
  }

  new_shares : (a : Layout) → In spaces a → Shares (λ i. false) a m pool new
  new_shares a i = record {
    places = sym (alike (λ i. false) spaces serves m pool are first a member i).0;
    levels = sym (alike (λ i. false) spaces serves m pool are first a member i).1;
    valid = new_fits.valid;
    root_entries = λ k s. cc;
    apart = λ q f s leads own. free a i (subst (Owns (a laid_in m) pool) (sym (is_root f (q, leads))) own);
  }

  shares_new : (a : Layout) → In spaces a → Shares (λ i. false) new m pool a
  shares_new a i = record {
    places = (alike (λ i. false) spaces serves m pool are first a member i).0;
    levels = (alike (λ i. false) spaces serves m pool are first a member i).1;
    valid = (are.fits a i).valid;
    root_entries = λ k s. cc;
    apart = λ q f s leads. ⊎_elim
        (λ x. (are.fits a i).no_table f x (q, leads))
        (λ t. free a i (inr (q, leads ∙ ap Some (sym (is_root f t)))));
  }

  apart_from : (a : Layout) → In spaces a → root ≢ a.root
  apart_from a i e = free a i (inr ([], ap Some (sym e)))

  one_more : AreSpaces (λ i. false) m serves pool (new ∷ spaces)
  one_more = record {
    fits = λ a i. ⊎_elim (λ e. subst (λ (l : Layout). PoolFits (l laid_in m) serves pool) e new_fits) (λ i. are.fits a i) i;
    own_roots = λ a b i j e. ⊎_elim
        (λ x. ⊎_elim (λ y. sym x ∙ y) (λ j. absurd (apart_from b j (ap (λ (l : Layout). l.root) x ∙ e))) j)
        (λ i. ⊎_elim (λ y. absurd (apart_from a i (ap (λ (l : Layout). l.root) y ∙ sym e))) (λ j. are.own_roots a b i j e) j)
        i;
    share = λ a b i j apart. ⊎_elim
        (λ x. ⊎_elim
        (λ y. absurd (apart (ap (λ (l : Layout). l.root) (sym x ∙ y))))
        (λ j. subst (λ (l : Layout). Shares (λ i. false) l m pool b) x (shares_new b j)) j)
        (λ i. ⊎_elim
        (λ y. subst (λ (l : Layout). Shares (λ i. false) a m pool l) y (new_shares a i))
        (λ j. are.share a b i j apart) j)
        i;
  }

pub empty_roots_are_spaces : EmptyRootsAreSpaces
empty_roots_are_spaces spaces first member some serves m pool are root there zeros free = one_more spaces first member some serves m pool are root there zeros free

-- ---- two empty roots

zero_table : List ℕ
zero_table = replicate 512 0

two_roots : Memory
two_roots = insert (insert (insert (empty {X = List ℕ} {R = nat_cmp}) 1 zero_table) 2 zero_table) 3 zero_table

first_table : words_of two_roots identity_places 0x1000 ≡ Some zero_table
unfolding address two_roots zero_table
first_table = simp get_it

second_table : words_of two_roots identity_places 0x2000 ≡ Some zero_table
unfolding address two_roots zero_table
second_table = simp get_it

free_table : words_of two_roots identity_places 0x3000 ≡ Some zero_table
unfolding address two_roots zero_table
free_table = simp get_it

get_zero : (n i : ℕ) → ◌≡◌ {A = ℕ} (get_or (replicate n 0) i 0) 0
get_zero zero i = refl
get_zero (suc n) zero = refl
get_zero (suc n) (suc i) = get_zero n i

all_zero : (root : ℕ) → words_of two_roots identity_places root ≡ Some zero_table → (i : ℕ) → word (words_of two_roots identity_places) root i ≡ 0
unfolding word zero_table
all_zero root is i = ap (λ t. cond (nat_lt i 512) (word_in t i) 0) is ∙ (elim (nat_lt i 512) as (λ b. ◌≡◌ {A = ℕ} (cond b (get_or zero_table i 0) 0) 0) [ true ↦ get_zero 512 i | false ↦ refl ])

module _ (levels : ℕ) (at_least_four : 0 < levels) (root : ℕ) (is : words_of two_roots identity_places root ≡ Some zero_table) where
  there : HasRoot identity_places root two_roots
  there = subst IsSome (sym is) refl

  table_is : (f : ℕ) → IsTable levels root (paths (direct_at levels identity_places root laid_in two_roots)) f → root ≡ f
  table_is = only_root levels at_least_four identity_places root two_roots there (all_zero root is)

  fits : root ≢ 0x3000 → PoolFits (direct_at levels identity_places root laid_in two_roots) (λ f. true) (0x3000 ∷ [])
  unfolding address
  fits apart = record {
    valid = root_is_valid levels at_least_four identity_places root two_roots there (all_zero root is);
    each_once = (λ i. i, tt);
    in_memory = λ f. ⊎_elim (λ e. subst (λ f. IsSome (words_of two_roots identity_places f)) e (subst IsSome (sym free_table) refl)) (λ n. absurd n);
    are_frames = λ f. ⊎_elim (λ e. subst (λ f. is_frame f ≡ true) e refl) (λ n. absurd n);
    not_zero = ⊎_elim (eqb-false 0x3000 0 refl) (λ n. n);
    no_table = λ f i t. ⊎_elim (λ e. apart (table_is f t ∙ sym e)) (λ n. n) i;
    serves_pool = λ f i. refl;
    serves_tables = λ i q f t. refl;
  }

pub two_empty_roots : TwoEmptyRoots
two_empty_roots levels some =
    let second = direct_at levels identity_places 0x2000 in
    let second_fits = fits levels some 0x2000 second_table (eqb-false 0x2000 0x3000 refl) in (
      two_roots,
      empty_roots_are_spaces (second ∷ []) second (inl refl) some (λ f. true) two_roots (0x3000 ∷ []) (one_is_a_space (λ i. false) second (λ f. true) two_roots (0x3000 ∷ []) second_fits)
          0x1000 (there levels some 0x1000 first_table) (all_zero 0x1000 first_table)
          (λ a. ⊎_elim (λ e. subst (λ (l : Layout). Owns (l laid_in two_roots) (0x3000 ∷ []) 0x1000 → ⊥) e (⊎_elim
          (⊎_elim (eqb-false 0x3000 0x1000 refl) (λ n. n))
          (λ t. eqb-false 0x2000 0x1000 refl (table_is levels some 0x2000 second_table 0x1000 t)))) (λ n. absurd n)),
    )
