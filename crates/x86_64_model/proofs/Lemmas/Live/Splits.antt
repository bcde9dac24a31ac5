-- What a split leaves: a hierarchy whose accesses arrive where they did.
use Rattle.std.proofs.Common.{◌≡◌, ◌≢◌, ◌⊎◌, inl, inr, ⊎_elim, ◌<◌, ℕ, Bool, true, false, List, [], ◌∷◌, ◌++◌, get_or, cond, Some, IsSome, refl, sym, ap, ◌∙◌, subst}
use Rattle.std.proofs.lemmas.Option.{none-some, same_Some}
use Rattle.std.specs.Cmp.{nat_cmp_total}
use Rattle.std.specs.FinMap.{get, insert, get-insert}
use Rattle.x86_64_model.specs.Laws.EntriesInPlace.{IsInPlace}
use Rattle.x86_64_model.specs.Laws.Splits.{arrival_at, IsInParts, split_memory, HasParts, PagesMayBeSplit}
use Rattle.x86_64_model.specs.Layout.{Layout}
use Rattle.x86_64_model.specs.Lists.{In}
use Rattle.x86_64_model.specs.Hierarchy.{◌laid_in◌, Owns, PoolFits, paths, words}
use Rattle.x86_64_model.specs.Mappings.{every_right}
use Rattle.x86_64_model.specs.Memory.{Memory, Words, IsMapping, word, set_word}
use Rattle.x86_64_model.specs.PathMap.{PathMap, entry, table_of, table_at}
use Rattle.x86_64_model.specs.Position.{page_path}
use Rattle.x86_64_model.specs.Store.{KeepsPool}
use Rattle.x86_64_model.specs.Window.{IsValidFor, SelfEntry, begins_with, outside_window}
use Rattle.x86_64_model.proofs.Lemmas.Hierarchies.Changes.{unused_no_table}
use Rattle.x86_64_model.proofs.Lemmas.Hierarchies.Elsewhere.{valid_for_elsewhere}
use Rattle.x86_64_model.proofs.Lemmas.Hierarchies.Held.{is_some-set, table_at_last}
use Rattle.x86_64_model.proofs.Lemmas.Hierarchies.Memories.{other_key}
use Rattle.x86_64_model.proofs.Lemmas.Live.Arrivals.{arrival_of_map}
use Rattle.x86_64_model.proofs.Lemmas.Live.Changed.{elsewhere_with_word}
use Rattle.x86_64_model.proofs.Lemmas.Live.Parts.{arrived_in_parts}
use Rattle.x86_64_model.proofs.Lemmas.Live.Replaced.{IsReplaced, valid_replaced, all_now, kind, nonempty, comes_from, table_itself, table_elsewhere}
use Rattle.x86_64_model.proofs.Lemmas.Live.Split as split
use Rattle.x86_64_model.proofs.Lemmas.Machines.Writes.{self_after}

module _ (l : Layout) (mapping : IsMapping l.places) (some : 0 < l.levels) (serves : ℕ → Bool) (m : Memory)
    (g : ℕ) (rest : List ℕ) (fits : PoolFits (l laid_in m) serves (g ∷ rest))
    (q : List ℕ) (f i t : ℕ) (table : List ℕ) (place : IsInPlace l m q f i)
    (parts : IsInParts l.levels q (entry (paths (l laid_in m)) q) t g (λ j. get_or table j 0)) where
  abbrev L : ℕ
  L = l.levels

  abbrev T : Words
  T = words (l laid_in m)

  abbrev M : PathMap
  M = paths (l laid_in m)

  abbrev n : Memory
  n = split_memory l m g table f i t

  abbrev F : Words
  F = words (l laid_in (insert m (l.places.place g) table))

  abbrev U : Words
  U = words (l laid_in n)

  abbrev N : PathMap
  N = paths (l laid_in n)

  words_now : U ≡ set_word F f i t
  words_now = split.words_now l mapping some serves m g rest fits q f i t table place parts

  filled_elsewhere : (h : ℕ) → h ≢ g → F h ≡ T h
  filled_elsewhere = split.filled_elsewhere l mapping some serves m g rest fits q f i t table place parts

  replaced : IsReplaced L (outside_window l.window l.root T)
      (outside_window l.window l.root U) l.root M q f i t (Some g)
  replaced = subst (λ W. IsReplaced L (outside_window l.window l.root T) W l.root M q f i t (Some g))
      (sym (split.seen_now l mapping some serves m g rest fits q f i t table place parts))
      (split.replaced l mapping some serves m g rest fits q f i t table place parts)

  valid_self : SelfEntry U l.root l.window
  valid_self = subst (λ (W : Words). SelfEntry W l.root l.window) (sym words_now)
      (self_after l.window F l.root f i t
      (split.not_the_self_entry l mapping some serves m g rest fits q f i t table place parts)
      (valid_for_elsewhere L l.window T F l.root M
      (λ r h leads. filled_elsewhere h (λ e. fits.no_table g (inl refl)
      (r, leads ∙ ap Some e))) fits.valid).self)

  valid_now : IsValidFor L l.window U l.root N
  valid_now = record {
    valid = valid_replaced L (outside_window l.window l.root T)
        (outside_window l.window l.root U) l.root M some fits.valid.valid q f i t (Some g) replaced;
    self = valid_self;
  }

  from : (r : List ℕ) (h : ℕ) → table_at L l.root N r ≡ Some h → ((r ≡ q) × (Some g ≡ Some h))
      ⊎ ((r ≢ q) × (table_at L l.root M r ≡ Some h))
  from = comes_from L (outside_window l.window l.root T)
      (outside_window l.window l.root U) l.root M some fits.valid.valid q f i t (Some g) replaced

  there_now : (h : ℕ) → IsSome (T h) → IsSome (U h)
  there_now h there = subst (λ (W : Words). IsSome (W h)) (sym words_now)
      (is_some-set F f i t h
      (split.filled_there l mapping some serves m g rest fits q f i t table place parts h there))

  fits_now : PoolFits (l laid_in n) serves rest
  fits_now = record {
    valid = valid_now;
    each_once = fits.each_once.1;
    in_memory = λ h k. there_now h (fits.in_memory h (inr k));
    are_frames = λ h k. fits.are_frames h (inr k);
    not_zero = λ k. fits.not_zero (inr k);
    no_table = λ h k own. ⊎_elim
        (λ y. fits.each_once.0 (subst (In rest) (sym (same_Some g h y.1)) k))
        (λ y. fits.no_table h (inr k) (own.0, y.1))
        (from own.0 h own.1);
    serves_pool = λ h k. fits.serves_pool h (inr k);
    serves_tables = λ j r h leads. ⊎_elim
        (λ y. subst (λ h. serves h ≡ true) (same_Some g h y.1) (fits.serves_pool g (inl refl)))
        (λ y. fits.serves_tables j r h y.1)
        (from (j ∷ r) h leads);
  }

  table_there : table_at L l.root N q ≡ Some g
  table_there = table_itself L (outside_window l.window l.root T)
      (outside_window l.window l.root U) l.root M some fits.valid.valid q f i t (Some g) replaced q
      (all_now L (outside_window l.window l.root T)
      (outside_window l.window l.root U) l.root M some fits.valid.valid q f i t
      (Some g) replaced q) refl

  -- tables that were there lie elsewhere, and are still there
  still_there : (r : List ℕ) (h : ℕ) → table_at L l.root M r ≡ Some h → table_at L l.root N r ≡ Some h
  still_there r h leads = ⊎_elim
      (λ e. absurd
      (none-some h (sym (ap (table_at L l.root M) e
      ∙ split.no_table_yet l mapping some serves m g rest fits q f i t table place parts) ∙ leads)))
      (λ z. ⊎_elim
      (λ y. absurd (none-some h (sym (ap (table_at L l.root M) y.1 ∙ table_at_last L l.root M q y.0
      ∙ ap (table_of L (q ++ y.0 ∷ []))
      (split.none_under l mapping some serves m g rest fits q f i t table place parts y.0 [])
      ∙ unused_no_table L (q ++ y.0 ∷ [])) ∙ leads)))
      (λ a. table_elsewhere L (outside_window l.window l.root T)
      (outside_window l.window l.root U) l.root M some fits.valid.valid q f i t (Some g) replaced r
      (all_now L (outside_window l.window l.root T)
      (outside_window l.window l.root U) l.root M some fits.valid.valid q f i t (Some g) replaced r) a
      ∙ leads) z)
      (kind L (outside_window l.window l.root T)
      (outside_window l.window l.root U) l.root M some fits.valid.valid q f i t (Some g) replaced r)

  owned_after : (h : ℕ) → Owns (l laid_in m) (g ∷ rest) h → Owns (l laid_in n) rest h
  owned_after h (inl (inl e)) = inr (q, table_there ∙ ap Some e)
  owned_after h (inl (inr k)) = inl k
  owned_after h (inr own) = inr (own.0, still_there own.0 h own.1)

  owned_before : (h : ℕ) → Owns (l laid_in n) rest h → Owns (l laid_in m) (g ∷ rest) h
  owned_before h (inl k) = inl (inr k)
  owned_before h (inr own) = ⊎_elim (λ y. inl (inl (same_Some g h y.1))) (λ y. inr (own.0, y.1))
      (from own.0 h own.1)

  keeps : KeepsPool l serves m (g ∷ rest) n rest
  keeps = record {
    fits = fits_now;
    conserved = λ h. (owned_after h, owned_before h);
    others = λ k none. elsewhere_with_word l (insert m (l.places.place g) table) f i t k
        (none f (inr (place.above, place.leads)))
        ∙ get-insert nat_cmp_total m (l.places.place g) table k
        ∙ ap (λ b. cond b (Some table) (get m k))
        (other_key k (l.places.place g) (λ e. none g (inl (inl refl)) (sym e)));
  }

  has_parts : HasParts q t (λ j. get_or table j 0) M N
  has_parts = record {
    itself = (all_now L (outside_window l.window l.root T)
        (outside_window l.window l.root U) l.root M some fits.valid.valid q f i t
        (Some g) replaced q).itself refl;
    below = λ j small. (all_now L (outside_window l.window l.root T)
        (outside_window l.window l.root U) l.root M some fits.valid.valid q f i t (Some g) replaced
        (q ++ j ∷ [])).below j refl
        ∙ ap (λ (W : Words). word W g j)
        (split.seen_now l mapping some serves m g rest fits q f i t table place parts)
        ∙ split.part_is l mapping some serves m g rest fits q f i t table place parts j small;
    elsewhere = λ r not none. (all_now L (outside_window l.window l.root T)
        (outside_window l.window l.root U) l.root M some fits.valid.valid q f i t
        (Some g) replaced r).elsewhere (not, none);
  }

  arrivals : (p : ℕ) → begins_with l.window (page_path L p) ≡ false
      → arrival_at L U l.root p ≡ arrival_at L T l.root p
  arrivals p out = arrival_of_map L l.window U l.root N p valid_now out
      ∙ arrived_in_parts L p q (nonempty L (outside_window l.window l.root T)
      (outside_window l.window l.root U) l.root M some fits.valid.valid q f i t (Some g) replaced)
      (entry M) (entry N) t g
      (λ j. get_or table j 0) parts has_parts.itself has_parts.below has_parts.elsewhere every_right
      ∙ sym (arrival_of_map L l.window T l.root M p fits.valid out)

pub pages_may_be_split : PagesMayBeSplit
pages_may_be_split l mapping some serves m g rest fits q f i t table place long parts = (
  keeps l mapping some serves m g rest fits q f i t table place parts,
  has_parts l mapping some serves m g rest fits q f i t table place parts,
  arrivals l mapping some serves m g rest fits q f i t table place parts,
)
