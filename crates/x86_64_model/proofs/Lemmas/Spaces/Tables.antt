-- A second hierarchy that shares tables with a first one, beside calls on the first.
use Rattle.std.proofs.Common.{◌≡◌, ◌≢◌, ◌⊎◌, inl, inr, ⊎_elim, ◌<◌, ◌↔◌, ℕ, Bool, true, false, cond, List, [], ◌∷◌, ◌++◌, Some, None, Option, IsSome, refl, sym, ap, ◌∙◌, subst}
use Rattle.std.proofs.lemmas.Bool.{cases_Bool}
use Rattle.x86_64_model.specs.Entry.{huge}
use Rattle.x86_64_model.specs.Validity.{entry_in, IsValid, paths_of}
use Rattle.x86_64_model.specs.Hierarchy.{◌laid_in◌, PoolFits, paths, words}
use Rattle.x86_64_model.specs.Store.{KeepsPool}
use Rattle.x86_64_model.specs.Layout.{Layout}
use Rattle.x86_64_model.specs.Laws.Spaces.{KeepsRootEntries, StaysSharing, SharedEntriesAreTheSame, SharedTablesStay, SharedHalvesStay}
use Rattle.x86_64_model.specs.Memory.{Memory, Words, IsMapping}
use Rattle.x86_64_model.specs.PathMap.{PathMap, entry, table_of, table_at}
use Rattle.x86_64_model.specs.Pool.{IsOwn, Fits}
use Rattle.x86_64_model.specs.Spaces.{is_shared, Shares}
use Rattle.x86_64_model.specs.Window.{Window, IsValidFor, SelfEntry, outside_window}
use Rattle.x86_64_model.proofs.Lemmas.Hierarchies.Elsewhere.{same_outside, same_word}
use Rattle.x86_64_model.proofs.Lemmas.Hierarchies.Exists.{law_paths_of, holds_paths_of, nothing_above_paths_of}
use Rattle.x86_64_model.proofs.Lemmas.Hierarchies.Held.{table_at_same, set_word_other}
use Rattle.x86_64_model.proofs.Lemmas.Hierarchies.Memories.{covered}
use Rattle.x86_64_model.proofs.Lemmas.Machines.Fitting.{own_there}
use Rattle.x86_64_model.proofs.Lemmas.Paths.Puts.{by_last, same_paths}
use Rattle.x86_64_model.proofs.Lemmas.Tables.Exact.{inside_window, still_there}

-- ---- the words of a hierarchy and those of the memory, with a recursive index or none

pub same_outside_for : (window : Option Window) (root : ℕ) (T U : Words) (f : ℕ) → U f ≡ T f → outside_window window root U f ≡ outside_window window root T f
same_outside_for None root T U f same = same
same_outside_for (Some w) root T U f same = same_outside w root T U f same

pub beside_root : (window : Option Window) (root : ℕ) (T : Words) (f : ℕ) → f ≢ root → outside_window window root T f ≡ T f
beside_root None root T f apart = refl
beside_root (Some w) root T f apart = set_word_other T root w.index 0 f apart

pub same_self : (window : Option Window) (root : ℕ) (T U : Words) → U root ≡ T root → SelfEntry T root window → SelfEntry U root window
same_self None root T U same self = tt
same_self (Some w) root T U same self = record {
  is_word = self.is_word ∙ sym (same_word T U root w.index same);
  is_present = self.is_present;
  not_huge = self.not_huge;
  names_root = self.names_root;
}

-- a table that two memories have alike has the same entries
pub read_alike : (T U : Words) (t : Option ℕ) (i : ℕ) → ((f : ℕ) → t ≡ Some f → U f ≡ T f) → entry_in U t i ≡ entry_in T t i
read_alike T U None i same = refl
read_alike T U (Some f) i same = same_word T U f i (same f refl)

-- ---- two hierarchies, before and after

-- the layout beside a first one, with its mapping and number of levels
abbrev pub beside : Layout → Option Window → (root added : ℕ) → Layout
beside first window root added = record { levels = first.levels; places = first.places; root = root; window = window; added_flags = added }

module _ (shared : ℕ → Bool) (first : Layout) (w : Option Window) (other added : ℕ) (mapping : IsMapping first.places) (some : 0 < first.levels) (serves : ℕ → Bool) (m n : Memory) (pool rest : List ℕ)
    (fits : PoolFits (first laid_in m) serves pool) (keeps : KeepsPool first serves m pool n rest) (kept : KeepsRootEntries shared first m n)
    (is : Shares shared first m pool (beside first w other added)) where
  abbrev pub L : ℕ
  L = first.levels

  abbrev pub v : Option Window
  v = first.window

  abbrev pub root : ℕ
  root = first.root

  abbrev pub T : Words
  T = words (first laid_in m)

  abbrev pub U : Words
  U = words (first laid_in n)

  -- the words as both hierarchies read them, and their path maps
  abbrev pub first_words : Words
  first_words = outside_window v root U

  abbrev pub second_words : Words
  second_words = outside_window w other U

  abbrev pub M : PathMap
  M = paths_of L (outside_window v root T) root

  abbrev pub N : PathMap
  N = paths_of L first_words root

  abbrev pub M' : PathMap
  M' = paths_of L (outside_window w other T) other

  abbrev pub N' : PathMap
  N' = paths_of L second_words other

  after : Fits L v U root N serves rest
  after = keeps.fits

  conserved : (f : ℕ) → IsOwn L root M pool f ↔ IsOwn L root N rest f
  conserved = keeps.conserved

  second : IsValidFor L w T other M'
  second = is.valid

  root_entries : (i : ℕ) → shared i ≡ true → entry M' (i ∷ []) ≡ entry M (i ∷ [])
  root_entries = is.root_entries

  apart : (q : List ℕ) (f : ℕ) → is_shared shared q ≡ false → table_at L other M' q ≡ Some f → IsOwn L root M pool f → ⊥
  apart = is.apart

  -- ---- words that stay, and words that are shared

  others : (f : ℕ) → IsSome (T f) → (IsOwn L root M pool f → ⊥) → U f ≡ T f
  others f there none = ap (λ o. cond (first.places.covers f) o None) (keeps.others (first.places.place f) (λ g own e.
      let own_covered = covered m first.places g (own_there L v T root serves (record { paths = M; pool = pool }) fits g own) in
      none (subst (IsOwn L root M pool) (mapping.distinct g f own_covered (covered m first.places f there) e) own)))

  root_there : IsSome (T other)
  root_there = inside_window w other T other (second.valid.holds.in_memory [] other refl)

  root_apart : IsOwn L root M pool other → ⊥
  root_apart = apart [] other refl refl

  pub same_root : U other ≡ T other
  same_root = others other root_there root_apart

  own_same : (q : List ℕ) (f : ℕ) → is_shared shared q ≡ false → table_at L other M' q ≡ Some f → second_words f ≡ outside_window w other T f
  own_same q f own leads = same_outside_for w other T U f (others f (inside_window w other T f (second.valid.holds.in_memory q f leads)) (apart q f own leads))

  owned_before : (q : List ℕ) (f : ℕ) → table_at L root N q ≡ Some f → IsOwn L root M pool f
  owned_before q f leads = (conserved f).1 (inr (q, leads))

  -- a table of the first one below its root is read alike by both
  shared_same : (k : ℕ) (r : List ℕ) (f : ℕ) → table_at L root N (k ∷ r) ≡ Some f → second_words f ≡ first_words f
  shared_same k r f leads =
      let not_first : f ≢ root = λ e. let x : k ∷ r ≡ [] = after.valid.valid.own_frames (k ∷ r) [] f leads (ap Some (sym e)) in cc in
      let not_second : f ≢ other = λ e. root_apart (subst (IsOwn L root M pool) e (owned_before (k ∷ r) f leads)) in
      beside_root w other U f not_second ∙ sym (beside_root v root U f not_first)

  -- ---- the entries of the second one afterwards

  abbrev At : List ℕ → Type 0
  At q = (is_shared shared q ≡ true → entry N' q ≡ entry N q) × (is_shared shared q ≡ false → entry N' q ≡ entry M' q)

  at_top : (i : ℕ) → entry N' (i ∷ []) ≡ entry M' (i ∷ [])
  at_top i = law_paths_of L second_words other some [] i
      ∙ same_word (outside_window w other T) second_words other i (same_outside_for w other T U other same_root)
      ∙ sym (law_paths_of L (outside_window w other T) other some [] i)

  further : (k : ℕ) (r : List ℕ) (i : ℕ) → At (k ∷ r) → At (k ∷ r ++ i ∷ [])
  further k r i h = (
    λ s. law_paths_of L second_words other some (k ∷ r) i
        ∙ ap (λ e. entry_in second_words (table_of L (k ∷ r) e) i) (h.0 s)
        ∙ read_alike first_words second_words (table_at L root N (k ∷ r)) i (λ f leads. shared_same k r f leads)
        ∙ sym (law_paths_of L first_words root some (k ∷ r) i),
    λ s. law_paths_of L second_words other some (k ∷ r) i
        ∙ ap (λ e. entry_in second_words (table_of L (k ∷ r) e) i) (h.1 s)
        ∙ read_alike (outside_window w other T) second_words (table_at L other M' (k ∷ r)) i (λ f leads. own_same (k ∷ r) f s leads)
        ∙ sym (law_paths_of L (outside_window w other T) other some (k ∷ r) i),
  )

  next : (q : List ℕ) (i : ℕ) → At q → At (q ++ i ∷ [])
  next [] i h = (λ s. at_top i ∙ root_entries i s ∙ sym (kept i s), λ s. at_top i)
  next (k ∷ r) i h = further k r i h

  pub all_at : (q : List ℕ) → At q
  all_at = by_last At (λ s. cc, λ s. nothing_above_paths_of L second_words other ∙ sym second.valid.holds.nothing_above) next

  -- ---- its tables

  abbrev pub From : List ℕ → ℕ → Type 0
  From q f = ((is_shared shared q ≡ true) × (table_at L root N q ≡ Some f)) ⊎ ((is_shared shared q ≡ false) × (table_at L other M' q ≡ Some f))

  pub comes_from : (q : List ℕ) (f : ℕ) → table_at L other N' q ≡ Some f → From q f
  comes_from [] f h = inr (refl, h)
  comes_from (k ∷ r) f h = ⊎_elim
      (λ s. inl (s, sym (ap (table_of L (k ∷ r)) ((all_at (k ∷ r)).0 s)) ∙ h))
      (λ s. inr (s, sym (ap (table_of L (k ∷ r)) ((all_at (k ∷ r)).1 s)) ∙ h))
      (cases_Bool (shared k))

  there : (q : List ℕ) (f : ℕ) → From q f → IsSome (second_words f)
  there q f = ⊎_elim
      (λ x. still_there w other U f (inside_window v root U f (after.valid.valid.holds.in_memory q f x.1)))
      (λ y. subst IsSome (sym (own_same q f y.0 y.1)) (second.valid.holds.in_memory q f y.1))

  clash : (p q : List ℕ) (f : ℕ) → table_at L root N p ≡ Some f → is_shared shared q ≡ false → table_at L other M' q ≡ Some f → ⊥
  clash p q f one own leads = apart q f own leads (owned_before p f one)

  valid_words : IsValid L second_words other N'
  valid_words = record {
    holds = holds_paths_of L second_words other some (λ q f h. there q f (comes_from q f h));
    own_frames = λ p q f a b. ⊎_elim
        (λ x. ⊎_elim (λ y. after.valid.valid.own_frames p q f x.1 y.1) (λ y. absurd (clash p q f x.1 y.0 y.1)) (comes_from q f b))
        (λ x. ⊎_elim (λ y. absurd (clash q p f y.1 x.0 x.1)) (λ y. second.valid.own_frames p q f x.1 y.1) (comes_from q f b))
        (comes_from p f a);
    not_zero = λ i q h. ⊎_elim (λ x. after.valid.valid.not_zero i q x.1) (λ y. second.valid.not_zero i q y.1) (comes_from (i ∷ q) 0 h);
    none_huge = λ q above. ⊎_elim
        (λ s. ap huge ((all_at q).0 s) ∙ after.valid.valid.none_huge q above)
        (λ s. ap huge ((all_at q).1 s) ∙ second.valid.none_huge q above)
        (cases_Bool (is_shared shared q));
  }

  pub valid_after : IsValidFor L w U other N'
  valid_after = record { valid = valid_words; self = same_self w other T U same_root second.self }

  -- ---- the pool

  pub fits_after : Fits L w T other M' serves pool → Fits L w U other N' serves rest
  fits_after before = record {
    valid = valid_after;
    each_once = after.each_once;
    in_memory = after.in_memory;
    are_frames = after.are_frames;
    not_zero = after.not_zero;
    no_table = λ f i t. ⊎_elim
        (λ x. after.no_table f i (t.0, x.1))
        (λ y. apart t.0 f y.0 y.1 ((conserved f).1 (inl i)))
        (comes_from t.0 f t.1);
    serves_pool = after.serves_pool;
    serves_tables = λ i q f h. ⊎_elim (λ x. after.serves_tables i q f x.1) (λ y. before.serves_tables i q f y.1) (comes_from (i ∷ q) f h);
  }

  -- ---- each again beside the other

  table_own : (q : List ℕ) → is_shared shared q ≡ false → table_at L other N' q ≡ table_at L other M' q
  table_own q s = table_at_same L other N' M' q ((all_at q).1 s)

  pub apart_after : (q : List ℕ) (f : ℕ) → is_shared shared q ≡ false → table_at L other N' q ≡ Some f → IsOwn L root N rest f → ⊥
  apart_after q f s leads own = apart q f s (sym (table_own q s) ∙ leads) ((conserved f).1 own)

  pub first_apart : (q : List ℕ) (f : ℕ) → is_shared shared q ≡ false → table_at L root N q ≡ Some f → IsOwn L other N' rest f → ⊥
  first_apart q f s leads = ⊎_elim (λ i. after.no_table f i (q, leads))
      (λ t. ⊎_elim
      (λ x. let same : t.0 ≡ q = after.valid.valid.own_frames t.0 q f x.1 leads in let z : true ≡ false = sym x.0 ∙ ap (is_shared shared) same ∙ s in cc)
      (λ y. clash q t.0 f leads y.0 y.1)
      (comes_from t.0 f t.1))

  pub stays_beside : StaysSharing shared first (beside first w other added) serves m pool n rest
  stays_beside = record {
    valid = valid_after;
    below_shared = λ q s. (all_at q).0 s;
    elsewhere = λ q s. (all_at q).1 s;
    fits = fits_after;
    shares = record { places = refl; levels = refl; valid = valid_after; root_entries = λ i s. (all_at (i ∷ [])).0 s; apart = apart_after };
    first_shares = record { places = refl; levels = refl; valid = after.valid; root_entries = λ i s. sym ((all_at (i ∷ [])).0 s); apart = first_apart };
  }

-- ---- with any layouts

module _ (shared : ℕ → Bool) (first second : Layout) (some : 0 < first.levels) (serves : ℕ → Bool) (m : Memory) (pool : List ℕ) (fits : PoolFits (first laid_in m) serves pool) (is : Shares shared first m pool second) where
  abbrev like : Layout
  like = beside first second.window second.root second.added_flags

  is_like : like ≡ second
  is_like = let at_levels = sym is.levels in let at_places = sym is.places in
      λ i. record { levels = at_levels i; places = at_places i; root = second.root; window = second.window; added_flags = second.added_flags }

  shares_like : Shares shared first m pool like
  shares_like = subst (λ (l : Layout). Shares shared first m pool l) (sym is_like) is

  module _ (mapping : IsMapping first.places) (n : Memory) (rest : List ℕ) (keeps : KeepsPool first serves m pool n rest) (kept : KeepsRootEntries shared first m n) where
    pub stays : StaysSharing shared first second serves m pool n rest
    stays = subst (λ (l : Layout). StaysSharing shared first l serves m pool n rest) is_like
        (stays_beside shared first second.window second.root second.added_flags mapping some serves m n pool rest fits keeps kept shares_like)

pub shared_tables_stay : SharedTablesStay
shared_tables_stay shared first second mapping some serves m n pool rest fits keeps kept is = stays shared first second some serves m pool fits is mapping n rest keeps kept

-- ---- nothing happened

nothing_kept : (l : Layout) (serves : ℕ → Bool) (m : Memory) (pool : List ℕ) → PoolFits (l laid_in m) serves pool → KeepsPool l serves m pool m pool
nothing_kept l serves m pool fits = record { fits = fits; conserved = λ f. (λ own. own, λ own. own); others = λ k o. refl }

pub shared_entries_are_the_same : SharedEntriesAreTheSame
shared_entries_are_the_same shared first second mapping some serves m pool fits is q s =
    (stays shared first second some serves m pool fits is mapping m pool (nothing_kept first serves m pool fits) (λ i s. refl)).below_shared q s

-- ---- nothing changed below the shared indices

pub shared_halves_stay : SharedHalvesStay
shared_halves_stay shared first second mapping some serves m n pool rest fits keeps below is =
    let stay = stays shared first second some serves m pool fits is mapping n rest keeps (λ i s. below (i ∷ []) s) in (
      stay,
      same_paths (paths (second laid_in n)) (paths (second laid_in m)) stay.valid.valid.holds.used_alone is.valid.valid.holds.used_alone (λ q. ⊎_elim
          (λ s. stay.below_shared q s ∙ below q s ∙ sym (shared_entries_are_the_same shared first second mapping some serves m pool fits is q s))
          (λ s. stay.elsewhere q s)
          (cases_Bool (is_shared shared q))),
    )
