-- Pages that are joined: the entry of their table becomes that of the larger page, and the table's frame
-- goes back.
use Rattle.std.proofs.Common.{◌≡◌, ◌≢◌, ◌⊎◌, inl, inr, ⊎_elim, ◌<◌, ℕ, Bool, true, false, List, [], ◌∷◌, ◌++◌, length, Some, None, IsSome, refl, sym, ap, ◌∙◌, subst, arith, append_assoc}
use Rattle.std.proofs.lemmas.Bool.{cases_lt}
use Rattle.std.proofs.lemmas.Option.{none-some, same_Some}
use Rattle.x86_64_model.specs.Entry.{is_frame}
use Rattle.x86_64_model.specs.Laws.EntriesInPlace.{IsInPlace, with_word}
use Rattle.x86_64_model.specs.Laws.Splits.{arrival_at, IsInParts, IsJoined, PagesMayBeJoined}
use Rattle.x86_64_model.specs.Layout.{Layout}
use Rattle.x86_64_model.specs.Lists.{In}
use Rattle.x86_64_model.specs.Hierarchy.{◌laid_in◌, Owns, PoolFits, paths, words}
use Rattle.x86_64_model.specs.Mappings.{every_right}
use Rattle.x86_64_model.specs.Memory.{Memory, Words, IsMapping, set_word}
use Rattle.x86_64_model.specs.PathMap.{PathMap, entry, table_of, table_at}
use Rattle.x86_64_model.specs.Pool.{TakesBack}
use Rattle.x86_64_model.specs.Position.{page_path}
use Rattle.x86_64_model.specs.Store.{KeepsPool}
use Rattle.x86_64_model.specs.Window.{Window, IsValidFor, SelfEntry, begins_with, outside_window}
use Rattle.x86_64_model.proofs.Lemmas.Entries.Bits.{is_frame_address}
use Rattle.x86_64_model.proofs.Lemmas.Hierarchies.Changes.{unused_no_table, unnamed, huge_names_none}
use Rattle.x86_64_model.proofs.Lemmas.Hierarchies.Held.{is_some-set, table_at_last, word-set_same, word-set_frame, word-set_index}
use Rattle.x86_64_model.proofs.Lemmas.Hierarchies.Memories.{outside_set}
use Rattle.x86_64_model.proofs.Lemmas.Hierarchies.Trees.{IsTree, table_at_is, tree_of_holds}
use Rattle.x86_64_model.proofs.Lemmas.Live.Arrivals.{arrival_of_map}
use Rattle.x86_64_model.proofs.Lemmas.Live.Changed.{words_with_word, elsewhere_with_word}
use Rattle.x86_64_model.proofs.Lemmas.Live.InPlace.{outside_table}
use Rattle.x86_64_model.proofs.Lemmas.Live.Parts.{arrived_in_parts}
use Rattle.x86_64_model.proofs.Lemmas.Live.Replaced.{IsReplaced, Now, valid_replaced, all_now, kind, nonempty, comes_from, table_elsewhere}
use Rattle.x86_64_model.proofs.Lemmas.Live.Split.{part_names_none}
use Rattle.x86_64_model.proofs.Lemmas.Machines.Fitting.{own_there}
use Rattle.x86_64_model.proofs.Lemmas.Machines.Writes.{not_self, self_after}
use Rattle.x86_64_model.proofs.Lemmas.Paths.Puts.{no_end}
use Rattle.x86_64_model.proofs.Lemmas.Walks.Agrees.{named}

module _ (l : Layout) (mapping : IsMapping l.places) (some : 0 < l.levels) (serves : ℕ → Bool) (m : Memory)
    (pool : List ℕ) (fits : PoolFits (l laid_in m) serves pool)
    (q : List ℕ) (f i e g : ℕ) (place : IsInPlace l m q f i)
    (parts : IsInParts l.levels q e (entry (paths (l laid_in m)) q) g
    (λ j. entry (paths (l laid_in m)) (q ++ j ∷ []))) where
  abbrev L : ℕ
  L = l.levels

  abbrev T : Words
  T = words (l laid_in m)

  abbrev M : PathMap
  M = paths (l laid_in m)

  abbrev n : Memory
  n = with_word l m f i e

  abbrev U : Words
  U = words (l laid_in n)

  abbrev N : PathMap
  N = paths (l laid_in n)

  abbrev V : Words
  V = outside_window l.window l.root T

  abbrev W : Words
  W = outside_window l.window l.root U

  words_now : U ≡ set_word T f i e
  words_now = words_with_word l mapping m f i e place.table place.there

  not_the_self_entry : (v : Window) → l.window ≡ Some v → f ≡ l.root → i ≢ v.index
  not_the_self_entry = not_self L l.window T l.root M fits.valid place.above i f place.leads place.small
      (ap (begins_with l.window) (sym place.is) ∙ place.outside)

  seen_now : W ≡ set_word V f i e
  seen_now = ap (outside_window l.window l.root) words_now
      ∙ outside_set l.window l.root T f i e not_the_self_entry

  tree : IsTree L l.root M
  tree = tree_of_holds L V l.root M fits.valid.valid.holds

  above : length q < L
  above = let low = parts.at_least in omega (arith, low)

  -- the table that the entry named, and its words, which name none
  had_table : table_at L l.root M q ≡ Some g
  had_table = table_at_is L l.root M q (λ z. no_end place.above i (sym z ∙ place.is))
      ∙ named L q (entry M q) parts.is_table above ∙ ap Some parts.names

  no_tables_below : (j : ℕ) → table_at L l.root M (q ++ j ∷ []) ≡ None
  no_tables_below j = table_at_last L l.root M q j ∙ ⊎_elim
      (λ small. part_names_none L q j (entry M (q ++ j ∷ [])) parts.at_least parts.at_most
      (parts.parts.pages j small))
      (λ past. ap (table_of L (q ++ j ∷ [])) (tree.small q j past) ∙ unused_no_table L (q ++ j ∷ []))
      (cases_lt j 512)

  replaced : IsReplaced L V W l.root M q f i e None
  replaced = subst (λ W. IsReplaced L V W l.root M q f i e None) (sym seen_now) (record {
    above = place.above;
    is = place.is;
    leads = place.leads;
    named = unnamed L q e (huge_names_none e parts.is_page);
    fresh = λ h r z. absurd (none-some h z);
    not_zero = λ z. none-some 0 z;
    low = parts.at_most;
    no_tables = λ j. unused_no_table L (q ++ j ∷ []);
    none_below = λ j k. ap (entry M) (sym (append_assoc q (j ∷ []) (k ∷ [])))
        ∙ tree.below (q ++ j ∷ []) k (no_tables_below j);
    written = (let seen = outside_table l.window l.root T f i place.table place.there place.within in word-set_same V f i e seen.0 seen.1 seen.2 place.small);
    beside = λ j apart. word-set_index V f i e f j apart;
    others = λ h apart not j. word-set_frame V f i e h j apart;
    there = λ h there. is_some-set V f i e h there;
    table_there = λ h z. absurd (none-some h z);
  })

  now : (r : List ℕ) → Now L V W l.root M some fits.valid.valid q f i e None replaced r
  now = all_now L V W l.root M some fits.valid.valid q f i e None replaced

  valid_now : IsValidFor L l.window U l.root N
  valid_now = record {
    valid = valid_replaced L V W l.root M some fits.valid.valid q f i e None replaced;
    self = subst (λ (W : Words). SelfEntry W l.root l.window) (sym words_now)
        (self_after l.window T l.root f i e not_the_self_entry fits.valid.self);
  }

  from : (r : List ℕ) (h : ℕ) → table_at L l.root N r ≡ Some h → (r ≢ q) × (table_at L l.root M r ≡ Some h)
  from r h leads = ⊎_elim (λ y. absurd (none-some h y.1)) (λ y. y)
      (comes_from L V W l.root M some fits.valid.valid q f i e None replaced r h leads)

  there_now : (h : ℕ) → IsSome (T h) → IsSome (U h)
  there_now h there = subst (λ (W : Words). IsSome (W h)) (sym words_now) (is_some-set T f i e h there)

  -- tables that were there are still there, but for the one that is given back
  still_there : (r : List ℕ) (h : ℕ) → table_at L l.root M r ≡ Some h → (g ≡ h)
      ⊎ (table_at L l.root N r ≡ Some h)
  still_there r h leads = ⊎_elim
      (λ z. inl (same_Some g h (sym had_table ∙ ap (table_at L l.root M) (sym z) ∙ leads)))
      (λ z. ⊎_elim
      (λ y. absurd (none-some h (sym (ap (table_at L l.root M) y.1 ∙ no_tables_below y.0) ∙ leads)))
      (λ a. inr (table_elsewhere L V W l.root M some fits.valid.valid q f i e None replaced r (now r) a
      ∙ leads)) z)
      (kind L V W l.root M some fits.valid.valid q f i e None replaced r)

  g_of_a_table : (r : List ℕ) → r ≢ [] → table_at L l.root M r ≡ Some g → (g ≢ 0) × (serves g ≡ true)
  g_of_a_table [] n leads = absurd (n refl)
  g_of_a_table (j ∷ r) n leads = (
    λ z. fits.valid.valid.not_zero j r
        (leads ∙ ap Some z),
    fits.serves_tables j r g leads,
  )

  own_g : (g ≢ 0) × (serves g ≡ true)
  own_g = g_of_a_table q (λ z. no_end place.above i (sym z ∙ place.is)) had_table

  module _ (take_back : List ℕ → ℕ → List ℕ) (gives : TakesBack take_back) where
    -- what holds of the frame and of the pool before holds of the pool now
    of_pool : (P : ℕ → Type 0) → P g → ((h : ℕ) → In pool h → P h) → (h : ℕ) → In (take_back pool g) h → P h
    of_pool P here there h k = ⊎_elim (λ z. subst P z here) (λ k. there h k)
        ((gives.same_frames pool g h).0 k)

    fits_now : PoolFits (l laid_in n) serves (take_back pool g)
    fits_now = record {
      valid = valid_now;
      each_once = gives.each_once pool g (λ k. fits.no_table g k (q, had_table), fits.each_once);
      in_memory = of_pool (λ h. IsSome (U h))
          (there_now g (own_there L l.window T l.root serves (record { paths = M; pool = pool }) fits g
          (inr (q, had_table)))) (λ h k. there_now h (fits.in_memory h k));
      are_frames = of_pool (λ h. is_frame h ≡ true)
          (subst (λ g. is_frame g ≡ true) parts.names (is_frame_address (entry M q))) fits.are_frames;
      not_zero = λ k. of_pool (λ h. h ≢ 0) own_g.0 (λ h k z. fits.not_zero (subst (In pool) z k)) 0 k refl;
      no_table = of_pool (λ h. (r : List ℕ) × (table_at L l.root N r ≡ Some h) → ⊥)
          (λ own. let was = from own.0 g own.1 in was.0
          (fits.valid.valid.own_frames own.0 q g was.1 had_table))
          (λ h k own. fits.no_table h k (own.0, (from own.0 h own.1).1));
      serves_pool = of_pool (λ h. serves h ≡ true) own_g.1 fits.serves_pool;
      serves_tables = λ j r h leads. fits.serves_tables j r h (from (j ∷ r) h leads).1;
    }

    owned_after : (h : ℕ) → Owns (l laid_in m) pool h → Owns (l laid_in n) (take_back pool g) h
    owned_after h (inl k) = inl ((gives.same_frames pool g h).1 (inr k))
    owned_after h (inr own) = ⊎_elim (λ z. inl ((gives.same_frames pool g h).1 (inl z)))
        (λ leads. inr (own.0, leads)) (still_there own.0 h own.1)

    owned_before : (h : ℕ) → Owns (l laid_in n) (take_back pool g) h → Owns (l laid_in m) pool h
    owned_before h (inl k) = of_pool (λ h. Owns (l laid_in m) pool h) (inr (q, had_table)) (λ h k. inl k) h k
    owned_before h (inr own) = inr (own.0, (from own.0 h own.1).1)

    pub keeps : KeepsPool l serves m pool n (take_back pool g)
    keeps = record {
      fits = fits_now;
      conserved = λ h. (owned_after h, owned_before h);
      others = λ k none. elsewhere_with_word l m f i e k (none f (inr (place.above, place.leads)));
    }

  pub joined : IsJoined q e M N
  joined = record {
    itself = (now q).itself refl;
    below = λ j. (now (q ++ j ∷ [])).below j refl;
    elsewhere = λ r not none. (now r).elsewhere (not, none);
  }

  pub arrivals : (p : ℕ) → begins_with l.window (page_path L p) ≡ false
      → arrival_at L U l.root p ≡ arrival_at L T l.root p
  arrivals p out = arrival_of_map L l.window U l.root N p valid_now out
      ∙ sym (arrived_in_parts L p q (nonempty L V W l.root M some fits.valid.valid q f i e None replaced)
      (entry N) (entry M) (entry M q) g (λ j. entry M (q ++ j ∷ []))
      (subst (λ e. IsInParts L q e (entry M q) g (λ j. entry M (q ++ j ∷ [])))
      (sym joined.itself) parts) refl (λ j small. refl)
      (λ r not none. sym (joined.elsewhere r not none)) every_right)
      ∙ sym (arrival_of_map L l.window T l.root M p fits.valid out)

pub pages_may_be_joined : PagesMayBeJoined
pages_may_be_joined l mapping some serves m pool fits take_back gives q f i e g place parts = (
  keeps l mapping some serves m pool fits q f i e g place parts take_back gives,
  joined l mapping some serves m pool fits q f i e g place parts,
  arrivals l mapping some serves m pool fits q f i e g place parts,
)
