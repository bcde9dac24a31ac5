-- One more address space, whose root was a frame of the pool.
use Rattle.std.proofs.Common.{◌≡◌, ◌≢◌, ◌⊎◌, inl, inr, ⊎_elim, ◌<◌, ℕ, Bool, true, false, cond, List, [], ◌∷◌, ◌++◌, Some, None, Option, IsSome, refl, sym, ap, ◌∙◌, subst}
use Rattle.std.proofs.lemmas.Bool.{cases_Bool, cases_eq}
use Rattle.x86_64_model.specs.Entry.{huge}
use Rattle.x86_64_model.specs.Hierarchy.{◌laid_in◌, Owns, PoolFits, Valid, paths, words}
use Rattle.x86_64_model.specs.Validity.{entry_in, IsValid, paths_of}
use Rattle.x86_64_model.specs.Laws.Spaces.{IsNewRoot, NewSpaces}
use Rattle.x86_64_model.specs.Layout.{Layout}
use Rattle.x86_64_model.specs.Lists.{In}
use Rattle.x86_64_model.specs.Memory.{Memory, Places, Words, IsMapping, word, words_of}
use Rattle.x86_64_model.specs.PathMap.{PathMap, entry, table_of, table_at}
use Rattle.x86_64_model.specs.Spaces.{is_shared, Shares, AreSpaces}
use Rattle.x86_64_model.specs.Window.{Window, IsValidFor, SelfEntry, outside_window}
use Rattle.x86_64_model.proofs.Lemmas.Hierarchies.Changes.{unused_no_table, zero_not_huge}
use Rattle.x86_64_model.proofs.Lemmas.Hierarchies.Elsewhere.{valid_for_elsewhere}
use Rattle.x86_64_model.proofs.Lemmas.Hierarchies.Exists.{law_paths_of, holds_paths_of, held_is_paths_of, nothing_above_paths_of}
use Rattle.x86_64_model.proofs.Lemmas.Hierarchies.Memories.{covered}
use Rattle.x86_64_model.proofs.Lemmas.Paths.Puts.{by_last}
use Rattle.x86_64_model.proofs.Lemmas.Spaces.Many.{shared_table}
use Rattle.x86_64_model.proofs.Lemmas.Spaces.Tables.{beside_root, read_alike, shared_entries_are_the_same}
use Rattle.x86_64_model.proofs.Lemmas.Tables.Exact.{inside_window, still_there}

-- ---- a hierarchy none of whose tables changed

module _ (l : Layout) (some : 0 < l.levels) (m n : Memory) (valid : Valid (l laid_in m)) (same : (q : List ℕ) (f : ℕ) → table_at l.levels l.root (paths (l laid_in m)) q ≡ Some f → words (l laid_in n) f ≡ words (l laid_in m) f) where
  still : IsValidFor l.levels l.window (words (l laid_in n)) l.root (paths (l laid_in m))
  still = valid_for_elsewhere l.levels l.window (words (l laid_in m)) (words (l laid_in n)) l.root (paths (l laid_in m)) same valid

  pub unchanged_paths : paths (l laid_in m) ≡ paths (l laid_in n)
  unchanged_paths = held_is_paths_of l.levels (outside_window l.window l.root (words (l laid_in n))) l.root some (paths (l laid_in m)) still.valid.holds

  pub unchanged_valid : Valid (l laid_in n)
  unchanged_valid = subst (IsValidFor l.levels l.window (words (l laid_in n)) l.root) unchanged_paths still

-- ---- the address spaces that were there

module _ (shared : ℕ → Bool) (spaces : List Layout) (first new : Layout) (member : In spaces first) (mapping : IsMapping first.places) (some : 0 < first.levels) (serves : ℕ → Bool) (m n : Memory) (rest : List ℕ)
    (are : AreSpaces shared m serves (new.root ∷ rest) spaces) (is : IsNewRoot shared first m n new) where
  -- the new root's frame
  abbrev f : ℕ
  f = new.root

  alike : (a : Layout) → In spaces a → (a.places ≡ first.places) × (a.levels ≡ first.levels)
  alike a i = ⊎_elim
      (λ e. let same = are.own_roots a first i member e in (ap (λ (l : Layout). l.places) same, ap (λ (l : Layout). l.levels) same))
      (λ apart. let s = are.share first a member i (λ e. apart (sym e)) in (s.places, s.levels))
      (cases_eq a.root first.root)

  not_table : (a : Layout) → In spaces a → (q : List ℕ) (g : ℕ) → table_at a.levels a.root (paths (a laid_in m)) q ≡ Some g → g ≢ f
  not_table a i q g leads e = (are.fits a i).no_table f (inl refl) (q, leads ∙ ap Some e)

  first_there : IsSome (words (first laid_in m) f)
  first_there = (are.fits first member).in_memory f (inl refl)

  -- another frame that was there has its words
  same_first : (g : ℕ) → IsSome (words (first laid_in m) g) → g ≢ f → words (first laid_in n) g ≡ words (first laid_in m) g
  same_first g there apart = ap (λ o. cond (first.places.covers g) o None) (is.others (first.places.place g) (λ h e p.
      apart (sym (mapping.distinct f g (covered m first.places f first_there) (covered m first.places g there) (ap first.places.place (sym e) ∙ p)))))

  pub same_words : (a : Layout) → In spaces a → (g : ℕ) → IsSome (words (a laid_in m) g) → g ≢ f → words (a laid_in n) g ≡ words (a laid_in m) g
  same_words a i g there apart =
      let at : a.places ≡ first.places = (alike a i).0 in
      subst (λ (p : Places). words_of n p g ≡ words_of m p g) (sym at) (same_first g (subst (λ (p : Places). IsSome (words_of m p g)) at there) apart)

  same_tables : (a : Layout) → In spaces a → (q : List ℕ) (g : ℕ) → table_at a.levels a.root (paths (a laid_in m)) q ≡ Some g → words (a laid_in n) g ≡ words (a laid_in m) g
  same_tables a i q g leads = same_words a i g (inside_window a.window a.root (words (a laid_in m)) g ((are.fits a i).valid.valid.holds.in_memory q g leads)) (not_table a i q g leads)

  levels_of : (a : Layout) → In spaces a → 0 < a.levels
  levels_of a i = subst (λ n. 0 < n) (sym (alike a i).1) some

  pub old_paths : (a : Layout) → In spaces a → paths (a laid_in m) ≡ paths (a laid_in n)
  old_paths a i = unchanged_paths a (levels_of a i) m n (are.fits a i).valid (same_tables a i)

  old_valid : (a : Layout) → In spaces a → Valid (a laid_in n)
  old_valid a i = unchanged_valid a (levels_of a i) m n (are.fits a i).valid (same_tables a i)

  table_before : (a : Layout) → In spaces a → (q : List ℕ) (g : ℕ) → table_at a.levels a.root (paths (a laid_in n)) q ≡ Some g → table_at a.levels a.root (paths (a laid_in m)) q ≡ Some g
  table_before a i q g = subst (λ (M : PathMap). table_at a.levels a.root M q ≡ Some g) (sym (old_paths a i))

  not_table_now : (a : Layout) → In spaces a → (q : List ℕ) (g : ℕ) → table_at a.levels a.root (paths (a laid_in n)) q ≡ Some g → g ≢ f
  not_table_now a i q g leads = not_table a i q g (table_before a i q g leads)

  not_first_free : In rest f → ⊥
  not_first_free = (are.fits first member).each_once.0

  free_apart : (g : ℕ) → In rest g → g ≢ f
  free_apart g i e = not_first_free (subst (In rest) e i)

  owned_before : (a : Layout) → In spaces a → (g : ℕ) → Owns (a laid_in n) rest g → Owns (a laid_in m) (f ∷ rest) g
  owned_before a i g = ⊎_elim (λ x. inl (inr x)) (λ t. inr (t.0, table_before a i t.0 g t.1))

  old_fits : (a : Layout) → In spaces a → PoolFits (a laid_in n) serves rest
  old_fits a i = let was = are.fits a i in record {
    valid = old_valid a i;
    each_once = was.each_once.1;
    in_memory = λ g x. subst IsSome (sym (same_words a i g (was.in_memory g (inr x)) (free_apart g x))) (was.in_memory g (inr x));
    are_frames = λ g x. was.are_frames g (inr x);
    not_zero = λ x. was.not_zero (inr x);
    no_table = λ g x t. was.no_table g (inr x) (t.0, table_before a i t.0 g t.1);
    serves_pool = λ g x. was.serves_pool g (inr x);
    serves_tables = λ k q g leads. was.serves_tables k q g (table_before a i (k ∷ q) g leads);
  }

  old_share : (a b : Layout) → In spaces a → In spaces b → a.root ≢ b.root → Shares shared a n rest b
  old_share a b i j apart = let was = are.share a b i j apart in record {
    places = was.places;
    levels = was.levels;
    valid = old_valid b j;
    root_entries = λ k s. ap (λ (M : PathMap). entry M (k ∷ [])) (sym (old_paths b j)) ∙ was.root_entries k s ∙ ap (λ (M : PathMap). entry M (k ∷ [])) (old_paths a i);
    apart = λ q g s leads own. was.apart q g s (table_before b j q g leads) (owned_before a i g own);
  }

  -- below the shared indices all are alike
  old_alike : (a : Layout) → In spaces a → (q : List ℕ) → is_shared shared q ≡ true → entry (paths (a laid_in n)) q ≡ entry (paths (first laid_in n)) q
  old_alike a i q s = ⊎_elim
      (λ e. ap (λ (l : Layout). entry (paths (l laid_in n)) q) (are.own_roots a first i member e))
      (λ apart. shared_entries_are_the_same shared first a mapping some serves n rest (old_fits first member) (old_share first a member i (λ e. apart (sym e))) q s)
      (cases_eq a.root first.root)

  -- ---- the new one, as a layout with the first one's mapping and levels

  abbrev L : ℕ
  L = first.levels

  abbrev w : Option Window
  w = new.window

  abbrev U : Words
  U = words (first laid_in n)

  abbrev first_words : Words
  first_words = outside_window first.window first.root U

  abbrev new_words : Words
  new_words = outside_window w f U

  abbrev N : PathMap
  N = paths (first laid_in n)

  abbrev N' : PathMap
  N' = paths_of L new_words f

  -- what is known of the new root, with these
  at_places : (P : Places → Type 0) → P new.places → P first.places
  at_places P h = subst P is.places h

  copied : (i : ℕ) → shared i ≡ true → word new_words f i ≡ entry N (i ∷ [])
  copied i s = at_places (λ p. word (outside_window w f (words_of n p)) f i ≡ entry (paths (first laid_in m)) (i ∷ [])) (is.copied i s) ∙ ap (λ (M : PathMap). entry M (i ∷ [])) (old_paths first member)

  empty : (i : ℕ) → shared i ≡ false → word new_words f i ≡ 0
  empty i s = at_places (λ p. word (outside_window w f (words_of n p)) f i ≡ 0) (is.empty i s)

  there : IsSome (U f)
  there = at_places (λ p. IsSome (words_of n p f)) is.there

  self : SelfEntry U f w
  self = at_places (λ p. SelfEntry (words_of n p) f w) is.self

  now : PoolFits (first laid_in n) serves rest
  now = old_fits first member

  shared_same : (k : ℕ) (r : List ℕ) (g : ℕ) → table_at L first.root N (k ∷ r) ≡ Some g → new_words g ≡ first_words g
  shared_same k r g leads =
      let not_root : g ≢ first.root = λ e. let x : k ∷ r ≡ [] = now.valid.valid.own_frames (k ∷ r) [] g leads (ap Some (sym e)) in cc in
      beside_root w f U g (not_table_now first member (k ∷ r) g leads) ∙ sym (beside_root first.window first.root U g not_root)

  abbrev At : List ℕ → Type 0
  At q = (is_shared shared q ≡ true → entry N' q ≡ entry N q) × (is_shared shared q ≡ false → entry N' q ≡ 0)

  further : (k : ℕ) (r : List ℕ) (i : ℕ) → At (k ∷ r) → At (k ∷ r ++ i ∷ [])
  further k r i h = (
    λ s. law_paths_of L new_words f some (k ∷ r) i
        ∙ ap (λ e. entry_in new_words (table_of L (k ∷ r) e) i) (h.0 s)
        ∙ read_alike first_words new_words (table_at L first.root N (k ∷ r)) i (λ g leads. shared_same k r g leads)
        ∙ sym (law_paths_of L first_words first.root some (k ∷ r) i),
    λ s. law_paths_of L new_words f some (k ∷ r) i
        ∙ ap (λ e. entry_in new_words (table_of L (k ∷ r) e) i) (h.1 s)
        ∙ ap (λ t. entry_in new_words t i) (unused_no_table L (k ∷ r)),
  )

  next : (q : List ℕ) (i : ℕ) → At q → At (q ++ i ∷ [])
  next [] i h = (λ s. law_paths_of L new_words f some [] i ∙ copied i s, λ s. law_paths_of L new_words f some [] i ∙ empty i s)
  next (k ∷ r) i h = further k r i h

  all_at : (q : List ℕ) → At q
  all_at = by_last At (λ s. cc, λ s. nothing_above_paths_of L new_words f) next

  -- its tables are its root and those of the first one below the shared indices
  abbrev From : List ℕ → ℕ → Type 0
  From q g = ((q ≡ []) × (g ≡ f)) ⊎ ((is_shared shared q ≡ true) × (table_at L first.root N q ≡ Some g))

  comes_from : (q : List ℕ) (g : ℕ) → table_at L f N' q ≡ Some g → From q g
  comes_from [] g h = inl (refl, let e : g ≡ f = cc in e)
  comes_from (k ∷ r) g h = ⊎_elim
      (λ s. inr (s, sym (ap (table_of L (k ∷ r)) ((all_at (k ∷ r)).0 s)) ∙ h))
      (λ s. let z : None ≡ Some g = sym (ap (table_of L (k ∷ r)) ((all_at (k ∷ r)).1 s) ∙ unused_no_table L (k ∷ r)) ∙ h in cc)
      (cases_Bool (shared k))

  is_there : (q : List ℕ) (g : ℕ) → From q g → IsSome (new_words g)
  is_there q g = ⊎_elim
      (λ x. subst (λ g. IsSome (new_words g)) (sym x.1) (still_there w f U f there))
      (λ x. still_there w f U g (inside_window first.window first.root U g (now.valid.valid.holds.in_memory q g x.1)))

  clash : (q : List ℕ) (g : ℕ) → g ≡ f → table_at L first.root N q ≡ Some g → ⊥
  clash q g e leads = not_table_now first member q g leads e

  valid_words : IsValid L new_words f N'
  valid_words = record {
    holds = holds_paths_of L new_words f some (λ q g h. is_there q g (comes_from q g h));
    own_frames = λ p q g a b. ⊎_elim
        (λ x. ⊎_elim (λ y. x.0 ∙ sym y.0) (λ y. absurd (clash q g x.1 y.1)) (comes_from q g b))
        (λ x. ⊎_elim (λ y. absurd (clash p g y.1 x.1)) (λ y. now.valid.valid.own_frames p q g x.1 y.1) (comes_from q g b))
        (comes_from p g a);
    not_zero = λ i q h. ⊎_elim (λ x. let z : i ∷ q ≡ [] = x.0 in cc) (λ x. now.valid.valid.not_zero i q x.1) (comes_from (i ∷ q) 0 h);
    none_huge = λ q above. ⊎_elim
        (λ s. ap huge ((all_at q).0 s) ∙ now.valid.valid.none_huge q above)
        (λ s. ap huge ((all_at q).1 s) ∙ zero_not_huge)
        (cases_Bool (is_shared shared q));
  }

  -- the layout of the new one has them
  abbrev like : Layout
  like = record { levels = first.levels; places = first.places; root = new.root; window = new.window; added_flags = new.added_flags }

  is_like : like ≡ new
  is_like = let at_levels = sym is.levels in let at_places = sym is.places in
      λ i. record { levels = at_levels i; places = at_places i; root = new.root; window = new.window; added_flags = new.added_flags }

  like_valid : Valid (like laid_in n)
  like_valid = record { valid = valid_words; self = self }

  like_fits : PoolFits (like laid_in n) serves rest
  like_fits = record {
    valid = like_valid;
    each_once = now.each_once;
    in_memory = now.in_memory;
    are_frames = now.are_frames;
    not_zero = now.not_zero;
    no_table = λ g i t. ⊎_elim (λ x. free_apart g i x.1) (λ x. now.no_table g i (t.0, x.1)) (comes_from t.0 g t.1);
    serves_pool = now.serves_pool;
    serves_tables = λ i q g h. ⊎_elim (λ x. let z : i ∷ q ≡ [] = x.0 in cc) (λ x. now.serves_tables i q g x.1) (comes_from (i ∷ q) g h);
  }

  like_shares : (a : Layout) → In spaces a → Shares shared a n rest like
  like_shares a i = record {
    places = sym (alike a i).0;
    levels = sym (alike a i).1;
    valid = like_valid;
    root_entries = λ k s. (all_at (k ∷ [])).0 s ∙ sym (old_alike a i (k ∷ []) s);
    apart = λ q g s leads own. ⊎_elim
        (λ x. ⊎_elim (λ free. free_apart g free x.1) (λ t. not_table_now a i t.0 g t.1 x.1) own)
        (λ x. let z : true ≡ false = sym x.0 ∙ s in cc)
        (comes_from q g leads);
  }

  shares_like : (a : Layout) → In spaces a → Shares shared like n rest a
  shares_like a i = record {
    places = (alike a i).0;
    levels = (alike a i).1;
    valid = old_valid a i;
    root_entries = λ k s. old_alike a i (k ∷ []) s ∙ sym ((all_at (k ∷ [])).0 s);
    apart = λ q g s leads own. ⊎_elim
        (λ free. (old_fits a i).no_table g free (q, leads))
        (λ t. ⊎_elim
        (λ x. not_table_now a i q g leads x.1)
        (λ x.
        let its : table_at a.levels a.root (paths (a laid_in n)) t.0 ≡ Some g = shared_table shared a.levels L a.root first.root (paths (a laid_in n)) N t.0 (alike a i).1 x.0 (old_alike a i t.0 x.0) ∙ x.1 in
        let same : t.0 ≡ q = (old_valid a i).valid.own_frames t.0 q g its leads in
        let z : true ≡ false = sym x.0 ∙ ap (is_shared shared) same ∙ s in cc)
        (comes_from t.0 g t.1))
        own;
  }

  root_apart : (a : Layout) → In spaces a → new.root ≢ a.root
  root_apart a i e = not_table a i [] a.root refl (sym e)

  new_spaces_are : AreSpaces shared n serves rest (new ∷ spaces)
  new_spaces_are = record {
    fits = λ a i. ⊎_elim (λ e. subst (λ (l : Layout). PoolFits (l laid_in n) serves rest) (is_like ∙ e) like_fits) (λ i. old_fits a i) i;
    own_roots = λ a b i j e. ⊎_elim
        (λ x. ⊎_elim (λ y. sym x ∙ y) (λ j. absurd (root_apart b j (ap (λ (l : Layout). l.root) x ∙ e))) j)
        (λ i. ⊎_elim (λ y. absurd (root_apart a i (ap (λ (l : Layout). l.root) y ∙ sym e))) (λ j. are.own_roots a b i j e) j)
        i;
    share = λ a b i j apart. ⊎_elim
        (λ x. ⊎_elim
        (λ y. absurd (apart (ap (λ (l : Layout). l.root) (sym x ∙ y))))
        (λ j. subst (λ (l : Layout). Shares shared l n rest b) (is_like ∙ x) (shares_like b j)) j)
        (λ i. ⊎_elim
        (λ y. subst (λ (l : Layout). Shares shared a n rest l) (is_like ∙ y) (like_shares a i))
        (λ j. old_share a b i j apart) j)
        i;
  }

pub new_spaces : NewSpaces
new_spaces shared spaces first new member mapping some serves m n rest are is = new_spaces_are shared spaces first new member mapping some serves m n rest are is
