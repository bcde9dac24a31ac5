-- Address spaces share more indices once all roots have the entries of one of them there.
use Rattle.std.proofs.Common.{◌≡◌, ◌≢◌, ◌⊎◌, inl, inr, ⊎_elim, ◌<◌, ℕ, ◌||◌, Bool, true, false, List, [], ◌∷◌, ◌++◌, cond, Some, None, Option, IsSome, refl, sym, ap, ◌∙◌, subst}
use Rattle.std.proofs.lemmas.Bool.{cases_Bool, cases_eq}
use Rattle.x86_64_model.specs.Entry.{huge}
use Rattle.x86_64_model.specs.Hierarchy.{◌laid_in◌, PoolFits, Valid, paths, words}
use Rattle.x86_64_model.specs.Validity.{entry_in, IsValid, paths_of}
use Rattle.x86_64_model.specs.Laws.Spaces.{AreSynced, SyncedSpaces, FewerAreShared}
use Rattle.x86_64_model.specs.Layout.{Layout}
use Rattle.x86_64_model.specs.Lists.{In}
use Rattle.x86_64_model.specs.Memory.{Memory, Places, Words, IsMapping, word, words_of}
use Rattle.x86_64_model.specs.PathMap.{PathMap, entry, table_of, table_at}
use Rattle.x86_64_model.specs.Spaces.{is_shared, Shares, AreSpaces}
use Rattle.x86_64_model.specs.Window.{Window, SelfEntry, outside_window}
use Rattle.x86_64_model.proofs.Lemmas.Hierarchies.Changes.{unused_no_table}
use Rattle.x86_64_model.proofs.Lemmas.Hierarchies.Exists.{law_paths_of, holds_paths_of, nothing_above_paths_of}
use Rattle.x86_64_model.proofs.Lemmas.Hierarchies.Held.{table_at_same}
use Rattle.x86_64_model.proofs.Lemmas.Hierarchies.Memories.{covered}
use Rattle.x86_64_model.proofs.Lemmas.Hierarchies.Trees.{tree_of_holds, tree_below}
use Rattle.x86_64_model.proofs.Lemmas.Paths.Puts.{by_last}
use Rattle.x86_64_model.proofs.Lemmas.Spaces.Many.{shared_table}
use Rattle.x86_64_model.proofs.Lemmas.Spaces.NewOnes.{unchanged_paths, unchanged_valid}
use Rattle.x86_64_model.proofs.Lemmas.Spaces.Tables.{beside, beside_root, same_outside_for, read_alike}
use Rattle.x86_64_model.proofs.Lemmas.Tables.Exact.{inside_window, still_there}

-- ---- more indices

neither : (a b : Bool) → (a || b) ≡ false → (a ≡ false) × (b ≡ false)
neither true b h = cc
neither false b h = (refl, h)

abbrev pub either : (shared more : ℕ → Bool) → ℕ → Bool
either shared more i = shared i || more i

not_shared : (shared more : ℕ → Bool) (q : List ℕ) → is_shared (either shared more) q ≡ false → is_shared shared q ≡ false
not_shared shared more [] h = refl
not_shared shared more (i ∷ q) h = (neither (shared i) (more i) h).0

-- ---- the first hierarchy and one that gets its entries

module _ (shared more : ℕ → Bool) (first : Layout) (w : Option Window) (other added : ℕ) (some : 0 < first.levels) (serves : ℕ → Bool) (m n : Memory) (pool : List ℕ)
    (fits : PoolFits (first laid_in m) serves pool) (is : Shares shared first m pool (beside first w other added))
    (same : (q : List ℕ) (f : ℕ) → table_at first.levels first.root (paths (first laid_in m)) q ≡ Some f → words (first laid_in n) f ≡ words (first laid_in m) f)
    (own_same : (k : ℕ) (r : List ℕ) (f : ℕ) → table_at first.levels other (paths (beside first w other added laid_in m)) (k ∷ r) ≡ Some f → words (first laid_in n) f ≡ words (first laid_in m) f)
    (root_there : IsSome (words (first laid_in n) other)) (self : SelfEntry (words (first laid_in n)) other w)
    (synced : (i : ℕ) → more i ≡ true → word (outside_window w other (words (first laid_in n))) other i ≡ entry (paths (first laid_in m)) (i ∷ []))
    (kept : (i : ℕ) → more i ≡ false → word (outside_window w other (words (first laid_in n))) other i ≡ entry (paths (beside first w other added laid_in m)) (i ∷ [])) where
  abbrev L : ℕ
  L = first.levels

  abbrev T : Words
  T = words (first laid_in m)

  abbrev U : Words
  U = words (first laid_in n)

  abbrev M : PathMap
  M = paths (first laid_in m)

  abbrev first_words : Words
  first_words = outside_window first.window first.root T

  abbrev old_words : Words
  old_words = outside_window w other T

  abbrev new_words : Words
  new_words = outside_window w other U

  abbrev M' : PathMap
  M' = paths_of L old_words other

  abbrev N' : PathMap
  N' = paths_of L new_words other

  abbrev all_shared : ℕ → Bool
  all_shared = either shared more

  shared_same : (k : ℕ) (r : List ℕ) (f : ℕ) → table_at L first.root M (k ∷ r) ≡ Some f → new_words f ≡ first_words f
  shared_same k r f leads =
      let not_first : f ≢ first.root = λ e. let x : k ∷ r ≡ [] = fits.valid.valid.own_frames (k ∷ r) [] f leads (ap Some (sym e)) in cc in
      let not_other : f ≢ other = λ e. is.apart [] other refl refl (inr (k ∷ r, leads ∙ ap Some e)) in
      beside_root w other U f not_other ∙ same (k ∷ r) f leads ∙ sym (beside_root first.window first.root T f not_first)

  abbrev At : List ℕ → Type 0
  At q = (is_shared all_shared q ≡ true → entry N' q ≡ entry M q) × (is_shared all_shared q ≡ false → entry N' q ≡ entry M' q)

  at_top : (i : ℕ) → all_shared i ≡ true → entry N' (i ∷ []) ≡ entry M (i ∷ [])
  at_top i s = law_paths_of L new_words other some [] i ∙ elim (more i) as (λ b. more i ≡ b → (shared i || b) ≡ true → word new_words other i ≡ entry M (i ∷ [])) [
    | true ↦ λ t _. synced i t
    | false ↦ λ t s. kept i t ∙ is.root_entries i (only (shared i) s)
  ] refl s
    where
      only : (a : Bool) → (a || false) ≡ true → a ≡ true
      only true h = refl
      only false h = h

  further : (k : ℕ) (r : List ℕ) (i : ℕ) → At (k ∷ r) → At (k ∷ r ++ i ∷ [])
  further k r i h = (
    λ s. law_paths_of L new_words other some (k ∷ r) i
        ∙ ap (λ e. entry_in new_words (table_of L (k ∷ r) e) i) (h.0 s)
        ∙ read_alike first_words new_words (table_at L first.root M (k ∷ r)) i (λ f leads. shared_same k r f leads)
        ∙ sym (law_paths_of L first_words first.root some (k ∷ r) i),
    λ s. law_paths_of L new_words other some (k ∷ r) i
        ∙ ap (λ e. entry_in new_words (table_of L (k ∷ r) e) i) (h.1 s)
        ∙ read_alike old_words new_words (table_at L other M' (k ∷ r)) i (λ f leads. same_outside_for w other T U f (own_same k r f leads))
        ∙ sym (law_paths_of L old_words other some (k ∷ r) i),
  )

  next : (q : List ℕ) (i : ℕ) → At q → At (q ++ i ∷ [])
  next [] i h = (λ s. at_top i s, λ s. law_paths_of L new_words other some [] i ∙ kept i (neither (shared i) (more i) s).1)
  next (k ∷ r) i h = further k r i h

  pub all_at : (q : List ℕ) → At q
  all_at = by_last At (λ s. cc, λ s. nothing_above_paths_of L new_words other ∙ sym is.valid.valid.holds.nothing_above) next

  abbrev From : List ℕ → ℕ → Type 0
  From q f = ((is_shared all_shared q ≡ true) × (table_at L first.root M q ≡ Some f)) ⊎ ((is_shared all_shared q ≡ false) × (table_at L other M' q ≡ Some f))

  comes_from : (q : List ℕ) (f : ℕ) → table_at L other N' q ≡ Some f → From q f
  comes_from [] f h = inr (refl, h)
  comes_from (k ∷ r) f h = ⊎_elim
      (λ s. inl (s, sym (ap (table_of L (k ∷ r)) ((all_at (k ∷ r)).0 s)) ∙ h))
      (λ s. inr (s, sym (ap (table_of L (k ∷ r)) ((all_at (k ∷ r)).1 s)) ∙ h))
      (cases_Bool (all_shared k))

  own_there : (q : List ℕ) (f : ℕ) → table_at L other M' q ≡ Some f → IsSome (new_words f)
  own_there [] f h = subst (λ f. IsSome (new_words f)) (let e : other ≡ f = cc in e) (still_there w other U other root_there)
  own_there (k ∷ r) f h = subst IsSome (sym (same_outside_for w other T U f (own_same k r f h))) (is.valid.valid.holds.in_memory (k ∷ r) f h)

  there : (q : List ℕ) (f : ℕ) → From q f → IsSome (new_words f)
  there q f = ⊎_elim
      (λ x. still_there w other U f (subst IsSome (sym (same q f x.1)) (inside_window first.window first.root T f (fits.valid.valid.holds.in_memory q f x.1))))
      (λ y. own_there q f y.1)

  clash : (p q : List ℕ) (f : ℕ) → table_at L first.root M p ≡ Some f → is_shared all_shared q ≡ false → table_at L other M' q ≡ Some f → ⊥
  clash p q f one own leads = is.apart q f (not_shared shared more q own) leads (inr (p, one))

  valid_words : IsValid L new_words other N'
  valid_words = record {
    holds = holds_paths_of L new_words other some (λ q f h. there q f (comes_from q f h));
    own_frames = λ p q f a b. ⊎_elim
        (λ x. ⊎_elim (λ y. fits.valid.valid.own_frames p q f x.1 y.1) (λ y. absurd (clash p q f x.1 y.0 y.1)) (comes_from q f b))
        (λ x. ⊎_elim (λ y. absurd (clash q p f y.1 x.0 x.1)) (λ y. is.valid.valid.own_frames p q f x.1 y.1) (comes_from q f b))
        (comes_from p f a);
    not_zero = λ i q h. ⊎_elim (λ x. fits.valid.valid.not_zero i q x.1) (λ y. is.valid.valid.not_zero i q y.1) (comes_from (i ∷ q) 0 h);
    none_huge = λ q above. ⊎_elim
        (λ s. ap huge ((all_at q).0 s) ∙ fits.valid.valid.none_huge q above)
        (λ s. ap huge ((all_at q).1 s) ∙ is.valid.valid.none_huge q above)
        (cases_Bool (is_shared all_shared q));
  }

  pub valid_after : Valid (beside first w other added laid_in n)
  valid_after = record { valid = valid_words; self = self }

-- what becomes of each space
record Grown (shared more : ℕ → Bool) (first l : Layout) (m n : Memory) : Type 0 where
  valid : Valid (l laid_in n)
  below : (q : List ℕ) → is_shared (either shared more) q ≡ true → entry (paths (l laid_in n)) q ≡ entry (paths (first laid_in m)) q
  elsewhere : (q : List ℕ) → is_shared (either shared more) q ≡ false → entry (paths (l laid_in n)) q ≡ entry (paths (l laid_in m)) q

-- ---- all of them

module _ (shared more : ℕ → Bool) (spaces : List Layout) (first : Layout) (member : In spaces first) (mapping : IsMapping first.places) (some : 0 < first.levels) (serves : ℕ → Bool) (m n : Memory) (pool : List ℕ)
    (are : AreSpaces shared m serves pool spaces) (is : AreSynced more first spaces m n) where
  -- the roots that may change
  abbrev Changed : ℕ → Type 0
  Changed f = (b : Layout) × (In spaces b) × (first.root ≢ b.root) × (f ≡ b.root)

  alike : (a : Layout) → In spaces a → (a.places ≡ first.places) × (a.levels ≡ first.levels)
  alike a i = ⊎_elim
      (λ e. let same = are.own_roots a first i member e in (ap (λ (l : Layout). l.places) same, ap (λ (l : Layout). l.levels) same))
      (λ apart. let s = are.share first a member i (λ e. apart (sym e)) in (s.places, s.levels))
      (cases_eq a.root first.root)

  root_there : (a : Layout) → In spaces a → IsSome (words (first laid_in m) a.root)
  root_there a i = subst (λ (p : Places). IsSome (words_of m p a.root)) (alike a i).0
      (inside_window a.window a.root (words (a laid_in m)) a.root ((are.fits a i).valid.valid.holds.in_memory [] a.root refl))

  same_first : (g : ℕ) → IsSome (words (first laid_in m) g) → (Changed g → ⊥) → words (first laid_in n) g ≡ words (first laid_in m) g
  same_first g there none = ap (λ o. cond (first.places.covers g) o None) (is.others (first.places.place g) (λ h changed p.
      let h_there = subst (λ f. IsSome (words (first laid_in m) f)) (sym changed.3) (root_there changed.0 changed.1) in
      let e = mapping.distinct h g (covered m first.places h h_there) (covered m first.places g there) p in
      none (changed.0, changed.1, changed.2, sym e ∙ changed.3)))

  -- a table that isn't its root is no root
  not_changed : (a : Layout) → In spaces a → (k : ℕ) (r : List ℕ) (g : ℕ) → table_at a.levels a.root (paths (a laid_in m)) (k ∷ r) ≡ Some g → Changed g → ⊥
  not_changed a i k r g leads changed = ⊎_elim
      (λ e. let x : k ∷ r ≡ [] = (are.fits a i).valid.valid.own_frames (k ∷ r) [] g leads (ap Some (e ∙ sym changed.3)) in cc)
      (λ apart. (are.share a changed.0 i changed.1 apart).apart [] changed.0.root refl refl (inr (k ∷ r, leads ∙ ap Some changed.3)))
      (cases_eq a.root changed.0.root)

  not_first_root : Changed first.root → ⊥
  not_first_root changed = changed.2 changed.3

  there_for : (a : Layout) → In spaces a → (q : List ℕ) (g : ℕ) → table_at a.levels a.root (paths (a laid_in m)) q ≡ Some g → IsSome (words (first laid_in m) g)
  there_for a i q g leads = subst (λ (p : Places). IsSome (words_of m p g)) (alike a i).0
      (inside_window a.window a.root (words (a laid_in m)) g ((are.fits a i).valid.valid.holds.in_memory q g leads))

  first_same : (q : List ℕ) (g : ℕ) → table_at first.levels first.root (paths (first laid_in m)) q ≡ Some g → words (first laid_in n) g ≡ words (first laid_in m) g
  first_same [] g leads = let e : first.root ≡ g = cc in same_first g (there_for first member [] g leads) (λ c. not_first_root (c.0, c.1, c.2, e ∙ c.3))
  first_same (k ∷ r) g leads = same_first g (there_for first member (k ∷ r) g leads) (not_changed first member k r g leads)

  first_paths : paths (first laid_in m) ≡ paths (first laid_in n)
  first_paths = unchanged_paths first some m n (are.fits first member).valid first_same

  first_grown : Grown shared more first first m n
  first_grown = record {
    valid = unchanged_valid first some m n (are.fits first member).valid first_same;
    below = λ q s. ap (λ (M : PathMap). entry M q) (sym first_paths);
    elsewhere = λ q s. ap (λ (M : PathMap). entry M q) (sym first_paths);
  }

  module _ (b : Layout) (i : In spaces b) (apart : first.root ≢ b.root) where
    share : Shares shared first m pool b
    share = are.share first b member i apart

    abbrev like : Layout
    like = beside first b.window b.root b.added_flags

    is_like : like ≡ b
    is_like = let at_levels = sym share.levels in let at_places = sym share.places in
        λ i. record { levels = at_levels i; places = at_places i; root = b.root; window = b.window; added_flags = b.added_flags }

    at_like : (P : Layout → Type 0) → P b → P like
    at_like P h = subst P (sym is_like) h

    own_same : (k : ℕ) (r : List ℕ) (f : ℕ) → table_at first.levels b.root (paths (like laid_in m)) (k ∷ r) ≡ Some f → words (first laid_in n) f ≡ words (first laid_in m) f
    own_same k r f leads = let its = subst (λ (l : Layout). table_at l.levels l.root (paths (l laid_in m)) (k ∷ r) ≡ Some f) is_like leads in
        same_first f (there_for b i (k ∷ r) f its) (not_changed b i k r f its)

    like_share : Shares shared first m pool like
    like_share = at_like (λ l. Shares shared first m pool l) share

    there_like : IsSome (words (like laid_in n) like.root)
    there_like = at_like (λ l. IsSome (words (l laid_in n) l.root)) (is.there b i apart)

    self_like : SelfEntry (words (like laid_in n)) like.root like.window
    self_like = at_like (λ l. SelfEntry (words (l laid_in n)) l.root l.window) (is.self b i apart)

    synced_like : (k : ℕ) → more k ≡ true → word (outside_window like.window like.root (words (like laid_in n))) like.root k ≡ entry (paths (first laid_in m)) (k ∷ [])
    synced_like = at_like (λ l. (k : ℕ) → more k ≡ true → word (outside_window l.window l.root (words (l laid_in n))) l.root k ≡ entry (paths (first laid_in m)) (k ∷ [])) (is.synced b i apart)

    kept_like : (k : ℕ) → more k ≡ false → word (outside_window like.window like.root (words (like laid_in n))) like.root k ≡ entry (paths (like laid_in m)) (k ∷ [])
    kept_like = at_like (λ l. (k : ℕ) → more k ≡ false → word (outside_window l.window l.root (words (l laid_in n))) l.root k ≡ entry (paths (l laid_in m)) (k ∷ [])) (is.kept b i apart)

    like_grown : Grown shared more first like m n
    like_grown = record {
      valid = valid_after shared more first b.window b.root b.added_flags some serves m n pool (are.fits first member) like_share first_same own_same there_like self_like synced_like kept_like;
      below = λ q. (all_at shared more first b.window b.root b.added_flags some serves m n pool (are.fits first member) like_share first_same own_same there_like self_like synced_like kept_like q).0;
      elsewhere = λ q. (all_at shared more first b.window b.root b.added_flags some serves m n pool (are.fits first member) like_share first_same own_same there_like self_like synced_like kept_like q).1;
    }

    other_grown : Grown shared more first b m n
    other_grown = subst (λ (l : Layout). Grown shared more first l m n) is_like like_grown

  grown : (a : Layout) → In spaces a → Grown shared more first a m n
  grown a i = ⊎_elim
      (λ e. subst (λ (l : Layout). Grown shared more first l m n) (are.own_roots first a member i e) first_grown)
      (λ apart. other_grown a i apart)
      (cases_eq first.root a.root)

  -- its tables are those of the first one and its own
  table_of_both : (a : Layout) → In spaces a → (q : List ℕ) (g : ℕ) → table_at a.levels a.root (paths (a laid_in n)) q ≡ Some g
      → ((is_shared (either shared more) q ≡ true) × (table_at first.levels first.root (paths (first laid_in m)) q ≡ Some g)) ⊎ ((is_shared (either shared more) q ≡ false) × (table_at a.levels a.root (paths (a laid_in m)) q ≡ Some g))
  table_of_both a i q g leads = let x = grown a i in ⊎_elim
      (λ s. inl (s, sym (shared_table (either shared more) a.levels first.levels a.root first.root (paths (a laid_in n)) (paths (first laid_in m)) q (alike a i).1 s (x.below q s)) ∙ leads))
      (λ s. inr (s, sym (table_at_same a.levels a.root (paths (a laid_in n)) (paths (a laid_in m)) q (x.elsewhere q s)) ∙ leads))
      (cases_Bool (is_shared (either shared more) q))

  free_same : (a : Layout) → In spaces a → (g : ℕ) → In pool g → IsSome (words (a laid_in n) g)
  free_same a i g free =
      let there = (are.fits first member).in_memory g free in
      let same = same_first g there (λ c. (are.fits c.0 c.1).no_table g free ([], ap Some (sym c.3))) in
      subst (λ (p : Places). IsSome (words_of n p g)) (sym (alike a i).0) (subst IsSome (sym same) there)

  fits_again : (a : Layout) → In spaces a → PoolFits (a laid_in n) serves pool
  fits_again a i = let was = are.fits a i in record {
    valid = (grown a i).valid;
    each_once = was.each_once;
    in_memory = free_same a i;
    are_frames = was.are_frames;
    not_zero = was.not_zero;
    no_table = λ g x t. ⊎_elim (λ y. (are.fits first member).no_table g x (t.0, y.1)) (λ y. was.no_table g x (t.0, y.1)) (table_of_both a i t.0 g t.1);
    serves_pool = was.serves_pool;
    serves_tables = λ k q g leads. ⊎_elim (λ y. (are.fits first member).serves_tables k q g y.1) (λ y. was.serves_tables k q g y.1) (table_of_both a i (k ∷ q) g leads);
  }

  -- a table of b outside the shared indices is none of the first one below them
  not_of_first : (b : Layout) → In spaces b → (p q : List ℕ) (g : ℕ) → is_shared (either shared more) p ≡ true → table_at first.levels first.root (paths (first laid_in m)) p ≡ Some g
      → is_shared (either shared more) q ≡ false → table_at b.levels b.root (paths (b laid_in m)) q ≡ Some g → ⊥
  not_of_first b j p q g s one t leads = ⊎_elim
      (λ e. let its = subst (λ (l : Layout). table_at l.levels l.root (paths (l laid_in m)) q ≡ Some g) (sym (are.own_roots first b member j e)) leads in
      let same : p ≡ q = (are.fits first member).valid.valid.own_frames p q g one its in
      let z : true ≡ false = sym s ∙ ap (is_shared (either shared more)) same ∙ t in cc)
      (λ apart. (are.share first b member j apart).apart q g (not_shared shared more q t) leads (inr (p, one)))
      (cases_eq first.root b.root)

  share_again : (a b : Layout) → In spaces a → In spaces b → a.root ≢ b.root → Shares (either shared more) a n pool b
  share_again a b i j apart = let was = are.share a b i j apart in record {
    places = was.places;
    levels = was.levels;
    valid = (grown b j).valid;
    root_entries = λ k s. (grown b j).below (k ∷ []) s ∙ sym ((grown a i).below (k ∷ []) s);
    apart = λ q g s leads. ⊎_elim
        (λ x. let z : true ≡ false = sym x.0 ∙ s in cc)
        (λ x. ⊎_elim
        (λ free. was.apart q g (not_shared shared more q s) x.1 (inl free))
        (λ t. ⊎_elim
        (λ y. not_of_first b j t.0 q g y.0 y.1 s x.1)
        (λ y. was.apart q g (not_shared shared more q s) x.1 (inr (t.0, y.1)))
        (table_of_both a i t.0 g t.1)))
        (table_of_both b j q g leads);
  }

  synced_are : AreSpaces (either shared more) n serves pool spaces
  synced_are = record { fits = fits_again; own_roots = are.own_roots; share = share_again }

pub synced_spaces : SyncedSpaces
synced_spaces shared more spaces first member mapping some serves m n pool are is = synced_are shared more spaces first member mapping some serves m n pool are is

-- ---- fewer indices

no_table_below : (l : Layout) (m : Memory) → Valid (l laid_in m) → (i : ℕ) → entry (paths (l laid_in m)) (i ∷ []) ≡ 0 → (q : List ℕ) → table_at l.levels l.root (paths (l laid_in m)) (i ∷ q) ≡ None
no_table_below l m valid i unused [] = ap (table_of l.levels (i ∷ [])) unused ∙ unused_no_table l.levels (i ∷ [])
no_table_below l m valid i unused (j ∷ q) =
    ap (table_of l.levels (i ∷ j ∷ q)) (tree_below l.levels l.root (paths (l laid_in m)) (tree_of_holds l.levels _ l.root (paths (l laid_in m)) valid.valid.holds) (i ∷ []) j q
    (ap (table_of l.levels (i ∷ [])) unused ∙ unused_no_table l.levels (i ∷ [])))
    ∙ unused_no_table l.levels (i ∷ j ∷ q)

pub fewer_are_shared : FewerAreShared
fewer_are_shared shared fewer serves m pool spaces part unused are = record {
  fits = are.fits;
  own_roots = are.own_roots;
  share = λ a b i j apart. let was = are.share a b i j apart in record {
    places = was.places;
    levels = was.levels;
    valid = was.valid;
    root_entries = λ k s. was.root_entries k (part k s);
    apart = λ q f off leads own. by b j (was.apart) was.valid q f off leads own;
  };
}
  where
    by : {Own : ℕ → Type 0} (b : Layout) → In spaces b → ((q : List ℕ) (f : ℕ) → is_shared shared q ≡ false → table_at b.levels b.root (paths (b laid_in m)) q ≡ Some f → Own f → ⊥) → Valid (b laid_in m)
        → (q : List ℕ) (f : ℕ) → is_shared fewer q ≡ false → table_at b.levels b.root (paths (b laid_in m)) q ≡ Some f → Own f → ⊥
    by b j apart valid [] f off leads own = apart [] f refl leads own
    by b j apart valid (i ∷ q) f off leads own = ⊎_elim
        (λ s. let z : None ≡ Some f = sym (no_table_below b m valid i (unused b j i s off) q) ∙ leads in cc)
        (λ s. apart (i ∷ q) f s leads own)
        (cases_Bool (shared i))
