-- The effect of a clean up below the root's entries, from the changes below each of them.
use Rattle.std.proofs.Common.{◌≡◌, ◌⊎◌, inl, inr, ⊎_elim, ◌<◌, ◌≤◌, ℕ, ◌+◌, ◌*◌, true, false, List, [], ◌∷◌, ◌++◌, length, Some, None, Option, refl, sym, ap, ◌∙◌, subst, subst₂, arith, eq-eqb}
use Rattle.x86_64_model.proofs.Lemmas.CleanUps.Below.{cleaned_below, back_below}
use Rattle.x86_64_model.proofs.Lemmas.CleanUps.Meets.{none_in_range}
use Rattle.x86_64_model.proofs.Lemmas.CleanUps.Trees.{given_frames, given_once}
use Rattle.x86_64_model.proofs.Lemmas.Entries.Bits.{address_address}
use Rattle.x86_64_model.proofs.Lemmas.Hierarchies.Trees.{IsTree, tree_of_holds, table_of_gives}
use Rattle.x86_64_model.proofs.Lemmas.Lists.Members.{in_append}
use Rattle.x86_64_model.proofs.Lemmas.Walks.Agrees.{reads}
use Rattle.x86_64_model.proofs.Lemmas.Walks.Fronts.{walked_outside}
use Rattle.x86_64_model.proofs.Lemmas.Walks.Walked.{walked, page_walk_is}
use Rattle.x86_64_model.specs.CleanUp.{AfterCleanUp, in_range}
use Rattle.x86_64_model.specs.Entry.{address, is_frame}
use Rattle.x86_64_model.specs.Hierarchy.{◌laid_in◌, Hierarchy, SupplyFits, Valid, paths, walk, words}
use Rattle.x86_64_model.specs.Layout.{Layout}
use Rattle.x86_64_model.specs.Lists.{In}
use Rattle.x86_64_model.specs.Memory.{Memory, Distinct}
use Rattle.x86_64_model.specs.Path.{AllBelow, span_start}
use Rattle.x86_64_model.specs.PathMap.{PathMap, entry, table_at}
use Rattle.x86_64_model.specs.Pool.{IsTable, TakesBack, with_returned}
use Rattle.x86_64_model.specs.Position.{page_path}
use Rattle.x86_64_model.specs.Store.{Store}
use Rattle.x86_64_model.specs.Window.{Window, begins_with, entry_at}
use Rattle.x86_64_mappers.proofs.CleanUp.BelowRoot.{cleaned_first, back_first, first_next, back_next}
use Rattle.x86_64_mappers.proofs.CleanUp.BelowRootWalks.{root_entry_stays, walked_below_root}
use Rattle.x86_64_mappers.proofs.CleanUp.BelowRootWhole.{back_end, back_none_below, back_once, back_start, cleaned_end, cleaned_none, cleaned_start, conserved}
use Rattle.x86_64_mappers.proofs.CleanUp.Cleaned.{cleaned_nothing, cleaned_then, table_there}
use Rattle.x86_64_mappers.proofs.Memory.WordsRead.{words_read}
use Rattle.x86_64_mappers.specs.CleanUpsBelowRoot.{CleansUpBelowRoot, clean_up_below_root}
use Rattle.x86_64_mappers.specs.private.CleaningUp.{IsCleaned, IsPageRange, IsVisited}

-- a clean up comes to the root
pub at_root : (l : Layout) (m : Memory) (low high : ℕ) → IsVisited l m low high [] l.root
at_root l m low high = record { leads = refl; visits = λ i. refl; below = tt; outside = outside l.window }
  where
    outside : (window : Option Window) → begins_with window [] ≡ false
    outside None = refl
    outside (Some w) = refl

module _ (l : Layout) (take_back : List ℕ → ℕ → List ℕ) (m : Memory) (valid : Valid (l laid_in m)) (held : List ℕ) (low high : ℕ) where
  abbrev L : ℕ
  L = l.levels

  abbrev M : PathMap
  M = paths (l laid_in m)

  tree : IsTree L l.root M
  tree = tree_of_holds L (words_read l m) l.root M valid.valid.holds

  -- nothing is removed below an entry of the root that isn't in range
  pub none_below : (i : ℕ) → in_range L M low high (i ∷ []) ≡ false → IsCleaned l take_back m held (cleaned_below L M low high (i ∷ [])) (back_below L M low high (i ∷ [])) m held
  none_below i out = subst₂ (λ N back. IsCleaned l take_back m held N back m held) (sym (cleaned_none L l.root M tree low high i out)) (sym (back_none_below L l.root M tree low high i out))
      (cleaned_nothing l take_back m valid held)

  -- the tables below the root's entries before an index were cleaned up
  abbrev First : (i : ℕ) → Memory → List ℕ → Type 0
  First i n rest = IsCleaned l take_back m held (cleaned_first L M low high i) (back_first L M low high i) n rest

  -- no entry before the index is in range
  pub starts : (a : ℕ) → ((j : ℕ) → j < a → in_range L M low high (j ∷ []) ≡ false) → First a m held
  starts a out = subst₂ (λ N back. IsCleaned l take_back m held N back m held) (sym (cleaned_start L l.root M tree low high a out)) (sym (back_start L l.root M tree low high a out))
      (cleaned_nothing l take_back m valid held)

  -- one more entry
  pub goes_on : Distinct l.places → (i : ℕ) (n : Memory) (rest : List ℕ) → First i n rest → (o : Memory) (left : List ℕ)
      → IsCleaned l take_back n rest (cleaned_below L (paths (l laid_in n)) low high (i ∷ [])) (back_below L (paths (l laid_in n)) low high (i ∷ [])) o left → First (i + 1) o left
  goes_on apart i n rest here o left next = subst₂ (λ N back. IsCleaned l take_back m held N back o left)
      (ap (λ N. cleaned_below L N low high (i ∷ [])) here.meant ∙ first_next L l.root M tree low high i)
      (ap (λ N. back_first L M low high i ++ back_below L N low high (i ∷ [])) here.meant ∙ back_next L l.root M tree low high i)
      (cleaned_then l take_back apart m valid held _ _ n rest here _ _ o left next)

-- ---- the range

-- the range of pages between two paths, by the pages' numbers, isn't empty
pub page_range : (L : ℕ) (first last : List ℕ) (a b : ℕ) → length first ≡ L → length last ≡ L → AllBelow first → AllBelow last
    → a * 0x1000 ≡ span_start (length first) first → b * 0x1000 ≡ span_start (length last) last → a ≤ b → IsPageRange L first last
page_range L first last a b first_long last_long first_below last_below start end in_order =
    let low : a * 0x1000 ≡ span_start L first = start ∙ ap (λ n. span_start n first) first_long in
    let high : b * 0x1000 ≡ span_start L last = end ∙ ap (λ n. span_start n last) last_long in
    record { first_long = first_long; last_long = last_long; first_below = first_below; last_below = last_below; in_order = omega (arith, low, high, in_order) }

-- ---- the end

-- the result of a page walk outside the recursive window, by the path map
seen : {Lent : Type 0} (h : Hierarchy Lent) → Valid h → (p : ℕ) → begins_with h.layout.window (page_path h.layout.levels p) ≡ false
    → walk h p ≡ walked (entry (paths h)) p h.layout.levels [] true true
seen h valid p out = let L = h.layout.levels in let T = words h in let root = h.layout.root in
    page_walk_is L T root (entry_at h.layout.window (paths h)) (reads L T root (paths h) h.layout.window valid) p ∙ walked_outside L h.layout.window (paths h) p out

module _ {Lent : Type 0} (h : Hierarchy Lent) (valid : Valid h) (store : Store) (low high : ℕ) (n : Memory) (rest : Store) (serves : rest.serves ≡ store.serves) where
  abbrev root : ℕ
  root = h.layout.root

  abbrev levels : ℕ
  levels = h.layout.levels

  abbrev before : PathMap
  before = paths h

  abbrev whole : AfterCleanUp
  whole = clean_up_below_root levels before low high

  abbrev after : Hierarchy Lent
  after = record h { memory = n }

  a_tree : IsTree levels root before
  a_tree = tree_of_holds levels (words_read h.layout h.memory) root before valid.valid.holds

  module _ (c : IsCleaned h.layout store.take_back h.memory store.frames whole.paths whole.back n rest.frames) where
    -- a freed frame was that of a table, and not the root's
    is_table_frame : (f : ℕ) → In whole.back f → (is_frame f ≡ true) × (f ≡ 0 → ⊥)
    is_table_frame f b = let was = c.were f b in by was.0 was.1
      where
        by : (q : List ℕ) → table_at levels root before q ≡ Some f → (is_frame f ≡ true) × (f ≡ 0 → ⊥)
        by [] t = absurd (c.gone f b ([], t))
        by (i ∷ q) t = let names = table_of_gives levels (i ∷ q) (entry before (i ∷ q)) f t in (
          eq-eqb (address f) f (ap address (sym names.at) ∙ address_address (entry before (i ∷ q)) ∙ names.at),
          λ z. valid.valid.not_zero i q (t ∙ ap Some z),
        )

    fits_still : (take_back : List ℕ → ℕ → List ℕ) → TakesBack take_back → (supply : List ℕ) → SupplyFits h supply → SupplyFits after (with_returned take_back supply whole.back)
    fits_still take_back gives supply fits = record {
      valid = c.valid;
      each_once = given_once take_back gives supply whole.back fits.each_once (back_once levels root before a_tree low high valid.valid.own_frames) (λ f b s. fits.no_table f s (c.were f b));
      in_memory = λ f i. c.there f (⊎_elim (λ b. table_there h.layout h.memory valid f (c.were f b)) (λ s. fits.in_memory f s) (mine f i));
      are_frames = λ f i. ⊎_elim (λ b. (is_table_frame f b).0) (λ s. fits.are_frames f s) (mine f i);
      not_zero = λ i. ⊎_elim (λ b. (is_table_frame 0 b).1 refl) (λ s. fits.not_zero s) (mine 0 i);
      no_table = λ f i t. ⊎_elim (λ b. c.gone f b t) (λ s. fits.no_table f s (t.0, c.left t.0 f t.1)) (mine f i);
      serves_pool = λ f i. refl;
      serves_tables = λ i q f t. refl;
    }
      where
        mine : (f : ℕ) → In (with_returned take_back supply whole.back) f → In whole.back f ⊎ In supply f
        mine f i = in_append whole.back supply f ((given_frames take_back gives supply whole.back f).0 i)

    did : CleansUpBelowRoot h store low high after rest
    did = record {
      cleans = record {
        outcome = c.meant;
        returned = c.given;
        fits = fits_still;
        empty = c.empty;
        keeps = record { valid = c.valid; others = c.others; layout = refl; lent = refl };
      };
      serves = serves;
      root_entries = λ i. ap (λ N. entry N (i ∷ [])) c.meant ∙ root_entry_stays levels root before a_tree low high i;
      walks = λ p out. seen after c.valid p out ∙ ap (λ N. walked (entry N) p levels [] true true) c.meant ∙ walked_below_root levels root before a_tree low high p ∙ sym (seen h valid p out);
      conserved = λ f t. ⊎_elim (λ left. inl (subst (λ N. IsTable levels root N f) (sym c.meant) left)) (λ back. inr back) (conserved levels root before a_tree low high f t);
    }

  -- the tables below the root's entries up to an index were cleaned up, and no entry from there on is in range
  pub ends_at : (b : ℕ) → b ≤ 512 → ((j : ℕ) → b ≤ j → j < 512 → in_range levels before low high (j ∷ []) ≡ false)
      → IsCleaned h.layout store.take_back h.memory store.frames (cleaned_first levels before low high b) (back_first levels before low high b) n rest.frames → CleansUpBelowRoot h store low high after rest
  ends_at b most out c = did (subst₂ (λ N back. IsCleaned h.layout store.take_back h.memory store.frames N back n rest.frames)
      (cleaned_end levels root before a_tree low high b most out) (back_end levels root before a_tree low high b most out) c)

-- the range has no positions
pub ends_nowhere : {Lent : Type 0} (h : Hierarchy Lent) → Valid h → (store : Store) (low high : ℕ) → high < low → CleansUpBelowRoot h store low high h store
ends_nowhere h valid store low high none =
    let out : (j : ℕ) → in_range h.layout.levels (paths h) low high (j ∷ []) ≡ false = λ j. none_in_range h.layout.levels (paths h) low high none (j ∷ []) in
    ends_at h valid store low high h.memory store refl 0 (omega arith) (λ j from to. out j) (starts h.layout store.take_back h.memory valid store.frames low high 0 (λ j less. out j))
