-- A hierarchy after one of its entries is changed in place.
use Rattle.std.proofs.Common.{◌≡◌, ◌≢◌, inl, inr, ◌<◌, ℕ, Bool, true, cond, List, [], set, unwrap_or, Some, None, IsSome, refl, sym, ap, ◌∙◌, subst}
use Rattle.std.specs.FinMap.{get, insert, get-insert}
use Rattle.std.specs.Cmp.{nat_cmp_total}
use Rattle.x86_64_model.specs.Laws.EntriesInPlace.{IsInPlace, with_word, MayReplace, OneChanged, EntriesMayChange, EntriesStayInPlace}
use Rattle.x86_64_model.specs.Layout.{Layout}
use Rattle.x86_64_model.specs.Hierarchy.{◌laid_in◌, Owns, PoolFits, paths, words}
use Rattle.x86_64_model.specs.Memory.{Memory, Words, IsMapping, word, words_of, set_word}
use Rattle.x86_64_model.specs.PathMap.{PathMap, entry, put, table_at}
use Rattle.x86_64_model.specs.Pool.{Fits}
use Rattle.x86_64_model.specs.Window.{outside_window}
use Rattle.x86_64_model.proofs.Lemmas.Hierarchies.Exists.{held_is_paths_of}
use Rattle.x86_64_model.proofs.Lemmas.Hierarchies.Memories.{covered, other_key, words_of-insert}
use Rattle.x86_64_model.proofs.Lemmas.Spaces.Walks.{walk_of_paths}
use Rattle.x86_64_model.proofs.Lemmas.Walks.Fronts.{walked_same, put_same}
use Rattle.x86_64_model.proofs.Lemmas.Live.InPlace.{Replaces, replaces, word_seen, nonzero, fits_written, tables_same, set_table}

-- the words of the memory then
pub words_with_word : (l : Layout) → IsMapping l.places → (m : Memory) (f i w : ℕ) (table : List ℕ)
    → words (l laid_in m) f ≡ Some table
    → words (l laid_in (with_word l m f i w)) ≡ set_word (words (l laid_in m)) f i w
words_with_word l mapping m f i w table there =
    let is_covered : l.places.covers f ≡ true = covered m l.places f
    (subst (λ o. IsSome o) (sym there) refl) in
    let got : get m (l.places.place f) ≡ Some table = sym
    (ap (λ b. cond b (get m (l.places.place f)) None) is_covered) ∙ there in
    ap (λ o. words_of (insert m (l.places.place f) (set (unwrap_or o []) i w)) l.places) got
    ∙ words_of-insert m l.places f i w table mapping.distinct is_covered got

-- and what it has elsewhere
pub elsewhere_with_word : (l : Layout) (m : Memory) (f i w k : ℕ) → l.places.place f ≢ k
    → get (with_word l m f i w) k ≡ get m k
elsewhere_with_word l m f i w k apart = get-insert nat_cmp_total m (l.places.place f)
    (set (unwrap_or (get m (l.places.place f)) []) i w) k
    ∙ ap (λ b. cond b (Some (set (unwrap_or (get m (l.places.place f)) []) i w)) (get m k))
    (other_key k (l.places.place f) (λ e. apart (sym e)))

module _ (l : Layout) (mapping : IsMapping l.places) (some : 0 < l.levels) (serves : ℕ → Bool) (m : Memory)
    (pool : List ℕ) (fits : PoolFits (l laid_in m) serves pool)
    (q : List ℕ) (f i w : ℕ) (place : IsInPlace l m q f i)
    (replace : MayReplace l.levels q (entry (paths (l laid_in m)) q) w) where
  abbrev M : PathMap
  M = paths (l laid_in m)

  abbrev T : Words
  T = words (l laid_in m)

  abbrev n : Memory
  n = with_word l m f i w

  words_now : words (l laid_in n) ≡ set_word T f i w
  words_now = words_with_word l mapping m f i w place.table place.there

  new : Replaces l.levels q (entry M q) w
  new = replaces l.levels q (entry M q) w
      (nonzero l.levels l.window T l.root M q place.above i f w place.is place.leads place.table place.there place.within place.small place.outside fits.valid) replace

  fits_map : Fits l.levels l.window (words (l laid_in n)) l.root (put M q w) serves pool
  fits_map = subst (λ V. Fits l.levels l.window V l.root (put M q w) serves pool) (sym words_now)
      (fits_written l.levels l.window T l.root M q place.above i f w place.is place.leads place.table place.there place.within place.small place.outside fits.valid new serves pool fits)

  paths_now : paths (l laid_in n) ≡ put M q w
  paths_now = sym (held_is_paths_of l.levels
      (outside_window l.window l.root (words (l laid_in n))) l.root some
      (put M q w) fits_map.valid.valid.holds)

  tables_now : (r : List ℕ) → table_at l.levels l.root (paths (l laid_in n)) r ≡ table_at l.levels l.root M r
  tables_now r = ap (λ P. table_at l.levels l.root P r) paths_now
      ∙ tables_same l.levels l.window T l.root M q place.above i f w place.is place.leads place.table place.there place.within place.small place.outside fits.valid new r

  others_now : (k : ℕ) → ((g : ℕ) → Owns (l laid_in m) pool g → l.places.place g ≢ k) → get n k ≡ get m k
  others_now k none = elsewhere_with_word l m f i w k (none f (inr (place.above, place.leads)))

  kept_forward : (g : ℕ) → Owns (l laid_in m) pool g → Owns (l laid_in n) pool g
  kept_forward g (inl k) = inl k
  kept_forward g (inr t) = inr (t.0, tables_now t.0 ∙ t.1)

  kept_back : (g : ℕ) → Owns (l laid_in n) pool g → Owns (l laid_in m) pool g
  kept_back g (inl k) = inl k
  kept_back g (inr t) = inr (t.0, sym (tables_now t.0) ∙ t.1)

  pub one_changed : OneChanged l serves pool m q w n
  one_changed = record {
    changed = paths_now;
    tables = tables_now;
    keeps = record {
      fits = subst (λ P. Fits l.levels l.window (words (l laid_in n)) l.root P serves pool)
          (sym paths_now) fits_map;
      conserved = λ g. (kept_forward g, kept_back g);
      others = others_now;
    };
    walks = λ p off out. walk_of_paths l n (put M q w) p fits_map.valid out
        ∙ walked_same l.levels p (entry (put M q w)) (entry M)
        (put_same l.levels p M q w off) l.levels [] true true refl
        ∙ sym (walk_of_paths l m M p fits.valid out);
  }

  pub seen_there : word T f i ≡ entry M q
  seen_there = word_seen l.levels l.window T l.root M q place.above i f w place.is place.leads place.table place.there place.within place.small place.outside fits.valid

  pub stay_in_place : (r : List ℕ) (g j : ℕ) → IsInPlace l m r g j → IsInPlace l n r g j
  stay_in_place r g j its = let now = set_table T f i w g j its.table its.there its.within in record {
    above = its.above;
    is = its.is;
    leads = tables_now its.above ∙ its.leads;
    table = now.0;
    there = ap (λ (V : Words). V g) words_now ∙ now.1;
    within = now.2;
    small = its.small;
    outside = its.outside;
  }

pub entries_may_change : EntriesMayChange
entries_may_change l mapping some serves m pool fits q f i w place replace = (
  seen_there l mapping some serves m pool fits q f i w place replace,
  one_changed l mapping some serves m pool fits q f i w place replace,
)

pub entries_stay_in_place : EntriesStayInPlace
entries_stay_in_place l mapping some serves m pool fits q f i w place replace = stay_in_place l mapping some serves m pool fits q f i w place replace
