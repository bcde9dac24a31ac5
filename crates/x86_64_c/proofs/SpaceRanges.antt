-- Calls on ranges in one of several address spaces.
use Rattle.std.proofs.Common.{zero, suc, ◌≡◌, ◌⊎◌, inl, inr, ⊎_elim, ◌≤◌, ◌<◌, nat_lt, ◌+◌, ◌^◌, ◌==◌, ℕ, Bool, true, false, cond, List, [], ◌∷◌, length, map, Option, Some, None, refl, sym, subst, arith, true≢false}
use Rattle.std.proofs.lemmas.Bool.{ltb-true, ltb-false}
use Rattle.std.specs.List.{AllByRecursion, range_with_len}
use Rattle.x86_64_model.specs.Call.{Call, Reply}
use Rattle.x86_64_model.specs.Entry.{present}
use Rattle.x86_64_model.specs.Laws.Spaces.{KeepsBelow, KeepsRootEntries, SpacesStay, SharedHalvesStay, CallsKeepBelow}
use Rattle.x86_64_model.specs.Layout.{Layout}
use Rattle.x86_64_model.specs.Lists.{In}
use Rattle.x86_64_model.specs.Hierarchy.{Hierarchy, allows_map, path_of}
use Rattle.x86_64_model.specs.Position.{position_count}
use Rattle.x86_64_model.specs.Spaces.{Avoids}
use Rattle.x86_64_model.specs.Store.{KeepsPool, put_first}
use Rattle.x86_64_mappers.specs.Ranges.{DoesMaps, MapRange, range_frame, map_at, maps as maps_of, range_page}
use Rattle.x86_64_tables.specs.LentMemory.{numbered}
use Rattle.x86_64_tables.specs.LentPool.{is_in, stacked}
use Rattle.x86_64_c.proofs.ArgumentsGiven.{four_or_five, given_is_mapping}
use Rattle.x86_64_c.proofs.EntryChanges.{gives, plain}
use Rattle.x86_64_c.proofs.RangesSeen.{maps_are}
use Rattle.x86_64_c.proofs.TogetherFit.{is_right, kept, none_first}
use Rattle.x86_64_c.specs.AddressSpaces.{FitTogether, IsInOrder, OthersStay, RangeChangesKeepOthers, RangeChangesKeepSpaces, RangeMapsKeepOthers, RangeMapsKeepSpaces, layout_given}
use Rattle.x86_64_c.specs.Arguments.{bad_hierarchy, hierarchy_in, level_of_page_size}
use Rattle.x86_64_c.specs.PoolCalls.{Loan, loan, pool_in}
use Rattle.x86_64_c.specs.Ranges.{Maps, MapsWith, MayMapPages, bad_map_range, range_asked}
use Rattle.x86_64_c.specs.declared.arguments.Hierarchy.{Hierarchy as Given}
use Rattle.x86_64_c.specs.declared.arguments.MapRequest.{MapRequest}

-- ---- whether a range may be mapped is decided

-- a property that is decided of each number is decided of all below a bound
all_below : (P : ℕ → Type 0) → ((k : ℕ) → P k ⊎ (P k → ⊥)) → (n : ℕ) → ((k : ℕ) → k < n → P k) ⊎ (((k : ℕ) → k < n → P k) → ⊥)
all_below P each zero = inl (λ k less. absurd (omega (arith, less)))
all_below P each (suc n) = ⊎_elim
    (λ some. ⊎_elim
    (λ last. inl (λ k less. ⊎_elim (λ here. subst P here last) (λ before. some k before) (last_or_before k n less)))
    (λ none. inr (λ all. none (all n (omega arith))))
    (each n))
    (λ none. inr (λ all. none (λ k less. all k (omega (arith, less)))))
    (all_below P each n)
  where
    last_or_before : (k n : ℕ) → k < suc n → (n ≡ k) ⊎ (k < n)
    last_or_before k n less = by (nat_lt k n) refl
      where
        by : (b : Bool) → nat_lt k n ≡ b → (n ≡ k) ⊎ (k < n)
        by true is = inr (ltb-true k n is)
        by false is = let over = ltb-false k n is in inl (omega (arith, less, over))

is_true : (b : Bool) → (b ≡ true) ⊎ (b ≡ true → ⊥)
is_true true = inl refl
is_true false = inr (λ no. true≢false (sym no))

is_less : (m n : ℕ) → (m < n) ⊎ (m < n → ⊥)
is_less m n = by (nat_lt m n) refl
  where
    by : (b : Bool) → nat_lt m n ≡ b → (m < n) ⊎ (m < n → ⊥)
    by true is = inl (ltb-true m n is)
    by false is = inr (λ less. let not = ltb-false m n is in omega (arith, less, not))

may_map : (h : Hierarchy (Unit {0})) (r : MapRange) (count : ℕ) → MayMapPages h r count ⊎ (MayMapPages h r count → ⊥)
may_map h r count = ⊎_elim
    (λ here. ⊎_elim
    (λ pages. ⊎_elim
    (λ frames. ⊎_elim
    (λ allowed. inl (here, record { pages = pages; frames = frames; allowed = allowed }))
    (λ none. inr (λ may. none may.1.allowed))
    (all_below (λ k. allows_map h (path_of h r.level (range_page r k)) r.flags r.parent_flags ≡ true)
    (λ k. is_true (allows_map h (path_of h r.level (range_page r k)) r.flags r.parent_flags)) count))
    (λ none. inr (λ may. none may.1.frames))
    (all_below (λ k. range_frame r k < 2 ^ 52) (λ k. is_less (range_frame r k) (2 ^ 52)) count))
    (λ none. inr (λ may. none may.1.pages))
    (all_below (λ k. range_page r k < position_count h.layout.levels) (λ k. is_less (range_page r k) (position_count h.layout.levels)) count))
    (λ none. inr (λ may. none may.0))
    (is_true (present r.parent_flags))

-- ---- all calls on the pages of a range avoid what each avoids

avoid_each : (P : Call → Type 0) (call : ℕ → Call) (a n : ℕ) → ((k : ℕ) → k < a + n → P (call k)) → AllByRecursion P (map call (range_with_len a n))
avoid_each P call a zero each = tt
avoid_each P call a (suc n) each = (each a (omega arith), avoid_each P call (a + 1) n (λ k less. each k (omega (arith, less))))

-- the level of a page's size
low_level : (size : ℕ) → 1 ≤ level_of_page_size size
low_level size = by (size == 0x1000) (size == 0x20_0000)
  where
    by : (b c : Bool) → 1 ≤ cond b 1 (cond c 2 3)
    by true c = omega arith
    by false true = omega arith
    by false false = omega arith

high_level : (size : ℕ) → level_of_page_size size ≤ 3
high_level size = by (size == 0x1000) (size == 0x20_0000)
  where
    by : (b c : Bool) → cond b 1 (cond c 2 3) ≤ 3
    by true c = omega arith
    by false true = omega arith
    by false false = omega arith

-- ---- the spaces fit together

module _ (stay : SpacesStay) (own : List ℕ) (shared : ℕ → Bool) (spaces : List Layout) (h : Given) (member : In spaces (layout_given h)) where
  module _ (lent after : Loan) (fit : FitTogether own shared spaces lent) (request : MapRequest) (count was status done : ℕ) (maps : MapsWith own h lent request count was status after done) where
    -- what holds if nothing changed, and if maps were made, holds
    by_maps : (P : Loan → Type 0) → P lent
        → (bad_map_range h lent request count ≡ None → IsInOrder h
        → Maps (hierarchy_in h lent.tables) (pool_in own lent.array lent.free) (range_asked h.levels request) count (hierarchy_in h after.tables) (pool_in own after.array after.free) status done
        → P after) → P after
    by_maps P none some = by (bad_map_range h lent request count) refl
      where
        by : (wrong : Option ℕ) → bad_map_range h lent request count ≡ wrong → P after
        by (Some why) wrong = subst P (sym (maps.bad why wrong).1) none
        by None good =
            let right = none_first (bad_hierarchy h (length lent.tables)) _ good in
            ⊎_elim (λ may. some good (is_right h (length lent.tables) right) (maps.maps good may))
            (λ not. subst P (sym (maps.refused good not).1) none)
            (may_map (hierarchy_in h lent.tables) (range_asked h.levels request) count)

    pub maps_fit : KeepsRootEntries shared (layout_given h) (numbered lent.tables) (numbered after.tables) → FitTogether own shared spaces after
    maps_fit entries = by_maps (FitTogether own shared spaces) fit
        (λ good some did. kept stay own shared spaces h member lent after fit some maps.room did.keeps entries)

pub range_maps_keep_spaces : SpacesStay → RangeMapsKeepSpaces
range_maps_keep_spaces stay own shared spaces lent after fit h member request count was status done maps entries =
    maps_fit stay own shared spaces h member lent after fit request count was status done maps entries

pub range_changes_keep_spaces : SpacesStay → RangeChangesKeepSpaces
range_changes_keep_spaces stay own shared spaces tables now array free fit h some member calls replies changes entries =
    kept stay own shared spaces h member (loan tables array free) (loan now array free) fit some refl
    (changes.keeps (is_in own) (stacked array free) (fit.are_spaces.fits (layout_given h) member)) entries

-- ---- the others keep their path maps

module _ (stay : SpacesStay) (halves : SharedHalvesStay) (below : CallsKeepBelow) (own : List ℕ) (shared : ℕ → Bool) (spaces : List Layout) (h : Given) (member : In spaces (layout_given h)) where
  -- after calls that avoid the shared indices
  others : (lent after : Loan) → FitTogether own shared spaces lent → IsInOrder h → length after.array ≡ length lent.array
      → KeepsPool (layout_given h) (is_in own) (numbered lent.tables) (stacked lent.array lent.free) (numbered after.tables) (stacked after.array after.free)
      → KeepsBelow shared (layout_given h) (numbered lent.tables) (numbered after.tables)
      → FitTogether own shared spaces after × OthersStay spaces h.root (numbered lent.tables) (numbered after.tables)
  others lent after fit some long keeps kept_below =
      let one = layout_given h in (
        kept stay own shared spaces h member lent after fit some long keeps (λ i s. kept_below (i ∷ []) s),
        λ other i apart. (halves shared one other (given_is_mapping h some.1) some.0 (is_in own) (numbered lent.tables) (numbered after.tables) _ _ (fit.are_spaces.fits one member) keeps kept_below
            (fit.are_spaces.share one other member i apart)).1,
      )

pub range_changes_keep_others : SpacesStay → SharedHalvesStay → CallsKeepBelow → RangeChangesKeepOthers
range_changes_keep_others stay halves below own shared spaces tables now array free fit h some member calls replies changes are avoid =
    let one = layout_given h in
    let fits = fit.are_spaces.fits one member in
    others stay halves below own shared spaces h member (loan tables array free) (loan now array free) fit some refl (changes.keeps (is_in own) (stacked array free) fits)
    (below shared one plain put_first gives (is_in own) (numbered tables) (numbered now) (stacked array free) (stacked array free) calls are fits (sym (changes.does.state (stacked array free) put_first)) avoid)

pub range_maps_keep_others : SpacesStay → SharedHalvesStay → CallsKeepBelow → RangeMapsKeepOthers
range_maps_keep_others stay halves below own shared spaces lent after fit h member request count was status done maps avoid =
    by_maps stay own shared spaces h member lent after fit request count was status done maps
    (λ (x : Loan). FitTogether own shared spaces x × OthersStay spaces h.root (numbered lent.tables) (numbered x.tables))
    (fit, λ other i apart. refl) (λ good some did. made good some did)
  where
    one : Layout
    one = layout_given h

    r : MapRange
    r = range_asked h.levels request

    made : bad_map_range h lent request count ≡ None → IsInOrder h
        → Maps (hierarchy_in h lent.tables) (pool_in own lent.array lent.free) r count (hierarchy_in h after.tables) (pool_in own after.array after.free) status done
        → FitTogether own shared spaces after × OthersStay spaces h.root (numbered lent.tables) (numbered after.tables)
    made good some did = ⊎_elim (λ all. by_list count (omega arith) _ all.2) (λ stop. by_list (done + 1) (few stop.2.0) _ stop.2.1) did.maps
      where
        few : done < count → done + 1 ≤ count
        few less = omega (arith, less)

        right : bad_hierarchy h (length lent.tables) ≡ None
        right = none_first (bad_hierarchy h (length lent.tables)) _ good

        levels : 3 < h.levels
        levels = ⊎_elim (λ four. omega (arith, four)) (λ five. omega (arith, five)) (four_or_five h (length lent.tables) right)

        by_list : (n : ℕ) → n ≤ count → (answers : List Reply)
            → DoesMaps (hierarchy_in h lent.tables) (stacked lent.array lent.free) r n answers (hierarchy_in h after.tables) (stacked after.array after.free)
            → FitTogether own shared spaces after × OthersStay spaces h.root (numbered lent.tables) (numbered after.tables)
        by_list n within answers does =
            others stay halves below own shared spaces h member lent after fit some maps.room did.keeps
            (below shared one plain put_first gives (is_in own) (numbered lent.tables) (numbered after.tables) (stacked lent.array lent.free) (stacked after.array after.free)
            (maps_of r n)
            (maps_are h.levels (level_of_page_size request.page.size) (low_level request.page.size) (high_level request.page.size) levels r refl n)
            (fit.are_spaces.fits one member) (sym (does.state put_first))
            (avoid_each (Avoids h.levels shared) (map_at r) 0 n (λ k less. avoid k (omega (arith, less, within)))))
