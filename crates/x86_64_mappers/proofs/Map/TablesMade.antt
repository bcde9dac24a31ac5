-- The tables above a page, made on the way down its parents: the map rule's for these parents without a page.
use Rattle.std.proofs.Common.{◌≡◌, ◌≢◌, ◌≤◌, ℕ, Bool, true, false, cond, List, [], ◌∷◌, ◌++◌, length, map, Some, None, Result, Ok, Err, bit_or, refl, sym, ap, ap₂, ◌∙◌, subst, arith, inl, inr, take, get_or, ◌+◌, ◌-◌, ◌⊎◌, ◌↔◌, ⊎_elim, ◌<◌}
use Rattle.std.proofs.lemmas.List.{length-append, length-take, map-id}
use Rattle.std.specs.List.{AllByRecursion}
use Rattle.x86_64_mappers.proofs.Entry.EntryEnds.{with_memory}
use Rattle.x86_64_mappers.proofs.Way.Pages.{path_parted}
use Rattle.x86_64_mappers.proofs.Way.Paths.{has_last_index, page_below_root, some_index_of}
use Rattle.x86_64_mappers.specs.private.MapSteps.{IsDown, KeepsOwned, mapped_from}
use Rattle.x86_64_mappers.specs.TablesAbove.{CreatesTables, tables_after}
use Rattle.x86_64_mappers.specs.Supplies.{Supply}
use Rattle.x86_64_model.specs.Entry.{IsParentFlags, used, huge}
use Rattle.x86_64_model.specs.Hierarchy.{◌laid_in◌, allows_map, Hierarchy, MayMapIf, Owns, PoolFits, SupplyFits, paths, words}
use Rattle.x86_64_model.specs.Layout.{Layout}
use Rattle.x86_64_model.specs.Lists.{In}
use Rattle.x86_64_model.specs.MapRule.{AfterMap, map_rule}
use Rattle.x86_64_model.specs.Memory.{Memory}
use Rattle.x86_64_model.specs.Path.{parents}
use Rattle.x86_64_model.specs.PathMap.{PathMap, entry, put, HasUsedAlone, table_at}
use Rattle.x86_64_model.specs.Pool.{IsOwn}
use Rattle.x86_64_model.specs.Refusal.{Refusal, PageAlreadyMapped, Answer, Done, Refused, refusal_of}
use Rattle.x86_64_model.specs.Standing.{IsParent}
use Rattle.x86_64_model.specs.Window.{IsValidFor, outside_window}
use Rattle.x86_64_model.proofs.Lemmas.Hierarchies.Changes.{unused_no_table, zero_not_used}
use Rattle.x86_64_model.proofs.Lemmas.Hierarchies.Trees.{IsTree, tree_of_holds}
use Rattle.x86_64_model.proofs.Lemmas.Lists.All.{all_mapped}
use Rattle.x86_64_model.proofs.Lemmas.Machines.Effects.{map_may}
use Rattle.x86_64_model.proofs.Lemmas.Machines.Refused.{in_or_none}
use Rattle.x86_64_model.proofs.Lemmas.Maps.Accepted.{map_leaves, map_makes}
use Rattle.x86_64_model.proofs.Lemmas.Maps.Down.{Descends, others, descends_same, step_used, step_huge, step_new, step_none, step_last}
use Rattle.x86_64_model.proofs.Lemmas.Maps.Frames.{map_conserves}
use Rattle.x86_64_model.proofs.Lemmas.Maps.Mapped.{supply_frames}
use Rattle.x86_64_model.proofs.Lemmas.Maps.Rights.{map_keeps_walks}
use Rattle.x86_64_model.proofs.Lemmas.Maps.Trees.{page_descends, parents_are, parents_short}
use Rattle.x86_64_model.proofs.Lemmas.Paths.Puts.{cases_path, entry-put_same, entry-put_other, no_end, used_alone-put, same_paths}

-- ---- the entry that is there

pub put_same : (M : PathMap) (q : List ℕ) (e : ℕ) → HasUsedAlone M → entry M q ≡ e → put M q e ≡ M
put_same M q e alone there = same_paths (put M q e) M (used_alone-put M q e alone) alone (λ p. by p (cases_path p q))
  where
    by : (p : List ℕ) → (p ≡ q) ⊎ (p ≢ q) → entry (put M q e) p ≡ entry M p
    by p (inl is) = ap (entry (put M q e)) is ∙ entry-put_same M q e ∙ sym there ∙ ap (entry M) (sym is)
    by p (inr n) = entry-put_other M q e p n

-- ---- a map without a page is one of a page without an entry

-- the rule for these parents, at a path without an entry
module _ (more added : ℕ) where
  abbrev by_rule : PathMap → (supply : List ℕ) → (ps : List (List ℕ)) → (q : List ℕ) → AfterMap
  by_rule M supply ps q = map_rule M supply more added ps q 0 0

  pub at_end : (M : PathMap) (supply : List ℕ) (q : List ℕ) → HasUsedAlone M → entry M q ≡ 0 → by_rule M supply [] q ≡ record { paths = M; supply = supply; answer = Done 0 }
  at_end M supply q alone none = step_last more added q 0 0 M supply
      ∙ ap₂ (λ u N. cond u (record { paths = M; supply = supply; answer = Refused (PageAlreadyMapped 0) }) (record { paths = N; supply = supply; answer = Done 0 })) (ap used none ∙ zero_not_used) (put_same M q 0 alone none)

  pub wherever : (q r : List ℕ) (M : PathMap) (supply : List ℕ) (ps : List (List ℕ)) → Descends M ps q → Descends M ps r → entry M q ≡ 0 → entry M r ≡ 0 → HasUsedAlone M → by_rule M supply ps q ≡ by_rule M supply ps r
  wherever q r M supply [] d e at to alone = at_end M supply q alone at ∙ sym (at_end M supply r alone to)
  wherever q r M supply (p ∷ ps) d e at to alone =
      let on : (x : ℕ) (s : List ℕ) → by_rule (put M p x) s ps q ≡ by_rule (put M p x) s ps r = λ x s. wherever q r (put M p x) s ps
      (descends_same M (put M p x) ps q (others more added q 0 0 M p x ps d.1) d.3) (descends_same M (put M p x) ps r (others more added r 0 0 M p x ps e.1) e.3)
      (entry-put_other M p x q d.2 ∙ at) (entry-put_other M p x r e.2 ∙ to) (used_alone-put M p x alone) in
      elim (used (entry M p)) as (λ u. used (entry M p) ≡ u → by_rule M supply (p ∷ ps) q ≡ by_rule M supply (p ∷ ps) r) [
        | true ↦ λ u. elim (huge (entry M p)) as (λ h. huge (entry M p) ≡ h → by_rule M supply (p ∷ ps) q ≡ by_rule M supply (p ∷ ps) r) [
          | true ↦ λ h. step_huge more added q 0 0 M p ps d supply u h ∙ sym (step_huge more added r 0 0 M p ps e supply u h)
          | false ↦ λ h. step_used more added q 0 0 M p ps d supply u h ∙ on (bit_or (entry M p) more) supply ∙ sym (step_used more added r 0 0 M p ps e supply u h)
        ] refl
        | false ↦ λ u. elim supply as (λ s. by_rule M s (p ∷ ps) q ≡ by_rule M s (p ∷ ps) r) [
          | [] ↦ step_none more added q 0 0 M p ps d u ∙ sym (step_none more added r 0 0 M p ps e u)
          | f ∷ fs ↦ step_new more added q 0 0 M p ps d f fs u ∙ on (bit_or f (bit_or more added)) fs ∙ sym (step_new more added r 0 0 M p ps e f fs u)
        ]
      ] refl

-- ---- the parents of a page

-- they don't depend on its last index
same_parents : (q : List ℕ) (i j : ℕ) → parents (q ++ i ∷ []) ≡ parents (q ++ j ∷ [])
same_parents [] i j = refl
same_parents (k ∷ []) i j = refl
same_parents (k ∷ n ∷ q) i j = ap (λ ps. (k ∷ []) ∷ map (λ p. k ∷ p) ps) (same_parents (n ∷ q) i j)

not_empty : (p : List ℕ) → 0 < length p → [] ≢ p
not_empty [] some is = absurd (omega (arith, some))
not_empty (i ∷ p) some is = cc

pub without_page : (M : PathMap) (ps : List (List ℕ)) (q : List ℕ) → AllByRecursion (λ p. 0 < length p) ps → Descends M ps q → Descends M ps []
without_page M [] q some d = tt
without_page M (p ∷ ps) q some d = (d.0, d.1, not_empty p some.0, without_page M ps q some.1 d.3)

-- ---- the tables above a page

-- the answer without a page, by the result of the way down
abbrev pub answer_down : Result ℕ Refusal → Answer
answer_down (Ok g) = Done 0
answer_down (Err why) = Refused why

owned_down : (l : Layout) (m : Memory) (s : List ℕ) (more : ℕ) (path : List ℕ) (r : Result ℕ Refusal) (n : Memory) (rest : List ℕ) → IsDown l m s more path r n rest → KeepsOwned l m s n rest
owned_down l m s more path (Ok g) n rest down = down.owned
owned_down l m s more path (Err why) n rest down = down.owned

module _ (l : Layout) (m : Memory) (s : List ℕ) (ready : SupplyFits (l laid_in m) s) (more : ℕ) (path : List ℕ) (last : ℕ) where
  abbrev M : PathMap
  M = paths (l laid_in m)

  abbrev page : List ℕ
  page = path ++ last ∷ []

  -- a path below the same parents, at an index that no table has
  abbrev past : List ℕ
  past = path ++ 512 ∷ []

  tree : IsTree l.levels l.root M
  tree = tree_of_holds l.levels (outside_window l.window l.root (words (l laid_in m))) l.root M ready.valid.valid.holds

  nonempty : AllByRecursion (λ p. 0 < length p) (parents page)
  nonempty = all_mapped _ _ (λ p (h : (0 < length p) × (length p < length page)). h.0) (parents page) (parents_short page)

  descends : Descends M (parents page) []
  descends = without_page M (parents page) page nonempty (page_descends l.levels l.root M tree page)

  abbrev rule : AfterMap
  rule = map_rule M s more l.added_flags (parents page) [] 0 0

  by_past : rule ≡ mapped_from M s more l.added_flags [] past 0 0
  by_past =
      wherever more l.added_flags [] past M s (parents page) descends (subst (λ ps. Descends M ps past) (same_parents path 512 last) (page_descends l.levels l.root M tree past))
      tree.nothing_above (tree.small path 512 (omega arith)) tree.used_alone
      ∙ ap (λ ps. map_rule M s more l.added_flags ps past 0 0) (same_parents path last 512 ∙ sym (map-id (parents past)))

  made_down : (r : Result ℕ Refusal) (n : Memory) (rest : List ℕ) → IsDown l m s more path r n rest → rule ≡ record { paths = paths (l laid_in n); supply = rest; answer = answer_down r }
  made_down (Ok g) n rest down =
      let after = tree_of_holds l.levels (outside_window l.window l.root (words (l laid_in n))) l.root (paths (l laid_in n)) down.owned.ready.valid.valid.holds in
      by_past ∙ down.outcome 512 0 0 ∙ at_end more l.added_flags (paths (l laid_in n)) rest past after.used_alone (after.small path 512 (omega arith))
  made_down (Err why) n rest down = by_past ∙ down.outcome 512 0 0

-- ---- what this leaves

-- a path without an entry below parents conserves frames
no_page : (l : Layout) (m : Memory) (s : List ℕ) → SupplyFits (l laid_in m) s → (more : ℕ) → IsParentFlags more → IsParentFlags l.added_flags → (p : List ℕ) → p ≢ [] → length p ≤ l.levels
    → (let after = map_rule (paths (l laid_in m)) s more l.added_flags (parents p) p 0 0 in (f : ℕ) → Owns (l laid_in m) s f ↔ IsOwn l.levels l.root after.paths after.supply f)
no_page l m s ready more marks adds [] some short = absurd (some refl)
no_page l m s ready more marks adds (i ∷ r) some short =
    (map_conserves l.levels l.root more l.added_flags marks adds i r 0 0 (unused_no_table l.levels (i ∷ r)) (paths (l laid_in m)) s (parents (i ∷ r))
    (page_descends l.levels l.root (paths (l laid_in m)) (tree_of_holds l.levels (outside_window l.window l.root (words (l laid_in m))) l.root (paths (l laid_in m)) ready.valid.valid.holds) (i ∷ r))
    (parents_are l.levels (i ∷ r) short) (supply_frames l m s ready)).same_set

-- a pool that serves frames fits after steps that took some of them
pool_left : (l : Layout) (m : Memory) (s : List ℕ) (n : Memory) (rest : List ℕ) → KeepsOwned l m s n rest → (serves : ℕ → Bool) → PoolFits (l laid_in m) serves s → PoolFits (l laid_in n) serves rest
pool_left l m s n rest owned serves before = record {
  valid = owned.ready.valid;
  each_once = owned.ready.each_once;
  in_memory = owned.ready.in_memory;
  are_frames = owned.ready.are_frames;
  not_zero = owned.ready.not_zero;
  no_table = owned.ready.no_table;
  serves_pool = λ f i. before.serves_pool f (owned.within f i);
  serves_tables = λ i q f at. ⊎_elim (λ free. before.serves_pool f free) (λ table. by i q f at table.0 table.1) (owned.own f (inr (i ∷ q, at)));
}
  where
    by : (i : ℕ) (q : List ℕ) (f : ℕ) → table_at l.levels l.root (paths (l laid_in n)) (i ∷ q) ≡ Some f → (p : List ℕ) → table_at l.levels l.root (paths (l laid_in m)) p ≡ Some f → serves f ≡ true
    by i q f at [] is = let none : i ∷ q ≡ [] = owned.ready.valid.valid.own_frames (i ∷ q) [] f at is in cc
    by i q f at (j ∷ p) is = before.serves_tables j p f is

module _ {Lent : Type 0} (h : Hierarchy Lent) (s : Supply) (ready : SupplyFits (h.layout laid_in h.memory) s.frames) (more : ℕ) (marks : IsParentFlags more) (adds : IsParentFlags h.layout.added_flags) (path : List ℕ) (last : ℕ) (short : length path < h.layout.levels) where
  abbrev q : List ℕ
  q = path ++ last ∷ []

  abbrev added : ℕ
  added = h.layout.added_flags

  abbrev by_parents : AfterMap
  by_parents = map_rule (paths h) s.frames more added (parents q) [] 0 0

  way : Descends (paths h) (parents q) []
  way = descends h.layout h.memory s.frames ready more path last

  module _ (r : Result ℕ Refusal) (n : Memory) (rest : Supply) (serves : rest.serves ≡ s.serves) (down : IsDown h.layout h.memory s.frames more path r n rest.frames) where
    abbrev N : PathMap
    N = paths (h.layout laid_in n)

    owned : KeepsOwned h.layout h.memory s.frames n rest.frames
    owned = owned_down h.layout h.memory s.frames more path r n rest.frames down

    left : by_parents ≡ record { paths = N; supply = rest.frames; answer = answer_down r }
    left = made_down h.layout h.memory s.frames ready more path last r n rest.frames down

    left_paths : by_parents.paths ≡ N
    left_paths = ap (λ (a : AfterMap). a.paths) left

    parents_made : (r : Result ℕ Refusal) → by_parents.answer ≡ answer_down r → refusal_of (answer_down r) ≡ None → AllByRecursion (λ p. IsParent more (entry N p)) (parents q)
    parents_made (Ok g) is none = subst (λ M. AllByRecursion (λ p. IsParent more (entry M p)) (parents q)) left_paths
        (map_makes more added [] 0 0 marks adds (paths h) s.frames (parents q) way (supply_frames h.layout h.memory s.frames ready) is).1
    parents_made (Err why) is none = cc

    nothing_above : (m : Memory) (supply : List ℕ) → SupplyFits (h.layout laid_in m) supply → entry (paths (h.layout laid_in m)) [] ≡ 0
    nothing_above m supply fits = fits.valid.valid.holds.nothing_above

    kept : (p : List ℕ) → (In (parents q) p → ⊥) → entry N p ≡ entry (paths h) p
    kept p none = ⊎_elim
        (λ is. ap (entry N) is ∙ nothing_above n rest.frames owned.ready ∙ sym (ap (entry (paths h)) is ∙ nothing_above h.memory s.frames ready))
        (λ other. ap (λ M. entry M p) (sym left_paths) ∙ map_leaves more added [] 0 0 p other (paths h) s.frames (parents q) way
        (⊎_elim (λ i. absurd (none i)) (λ a. a) (in_or_none p (parents q)))) (cases_path p [])

    left_tables : CreatesTables h s more q (refusal_of (answer_down r)) (record h { memory = n }) rest
    left_tables = record {
      outcome = ap tables_after (sym left);
      made = parents_made r (ap (λ (a : AfterMap). a.answer) left);
      entries = kept;
      fits = pool_left h.layout h.memory s.frames n rest.frames owned;
      conserved = λ f. subst (λ (a : AfterMap). Owns h s.frames f ↔ IsOwn h.layout.levels h.layout.root a.paths a.supply f)
          (sym (by_past h.layout h.memory s.frames ready more path last ∙ ap (λ ps. map_rule (paths h) s.frames more added ps (path ++ 512 ∷ []) 0 0) (map-id (parents (path ++ 512 ∷ [])))) ∙ left)
          (no_page h.layout h.memory s.frames ready more marks adds (path ++ 512 ∷ []) (λ is. no_end path 512 (sym is)) (simp length-append (omega (arith, short))) f);
      walks = map_keeps_walks h.layout.levels h.layout.window (words h) (words (h.layout laid_in n)) h.layout.root (paths h) s.frames more added (parents q) [] 0 0 marks way ready.valid
          (subst (IsValidFor h.layout.levels h.layout.window (words (h.layout laid_in n)) h.layout.root) (sym left_paths) owned.ready.valid);
      keeps = record { valid = owned.ready.valid; others = owned.others; layout = refl; lent = refl };
      serves = serves;
    }

    pub tables_made : (after : Hierarchy Lent) → after.layout ≡ h.layout → after.lent ≡ h.lent → after.memory ≡ n → CreatesTables h s more q (refusal_of (answer_down r)) after rest
    tables_made after layout lent memory = subst (λ h'. CreatesTables h s more q (refusal_of (answer_down r)) h' rest) (ap (λ m. record h { memory = m }) (sym memory) ∙ with_memory h after layout lent) left_tables

-- ---- above a page

module _ {Lent : Type 0} (h : Hierarchy Lent) (s : Supply) (some : 3 < h.layout.levels) (adds : IsParentFlags h.layout.added_flags) (level : ℕ) (low : 1 ≤ level) (high : level ≤ 3) (q : List ℕ) (levels : length q + level ≡ h.layout.levels + 1) (more : ℕ)
    (may : MayMapIf h s.frames (allows_map h q 0 more)) (r : Result ℕ Refusal) (after : Hierarchy Lent) (layout : after.layout ≡ h.layout) (lent : after.lent ≡ h.lent) (rest : Supply) (serves : rest.serves ≡ s.serves)
    (down : IsDown h.layout h.memory s.frames more (take (length q - 1) q) r after.memory rest.frames) where
  pub page_tables_made : CreatesTables h s more q (refusal_of (answer_down r)) after rest
  page_tables_made =
      let size : length q ≡ length q - 1 + 1 = has_last_index q (some_index_of h.layout.levels q level levels (page_below_root h.layout.levels level some high)) in
      let marks = (map_may h.layout.levels h.layout.window (paths h) q 0 more may.allowed).marks in
      subst (λ q. CreatesTables h s more q (refusal_of (answer_down r)) after rest) (path_parted q (length q - 1) size)
      (tables_made h s may.fits more marks adds (take (length q - 1) q) (get_or q (length q - 1) 0) (omega (arith, length-take (length q - 1) q, levels, some, high, low))
      r after.memory rest serves down after layout lent refl)
