-- A map of a page that was prepared finds its tables, and goes on where it would have been after making them.
use Rattle.std.proofs.Common.{◌≡◌, ◌<◌, ◌+◌, ◌-◌, ℕ, Bool, true, false, cond, List, [], ◌∷◌, length, None, Some, bit_and, bit_or, min, refl, sym, ap, ap₂, ◌∙◌, ⊎_elim, subst, arith, eq-eqb, eqb-true}
use Rattle.std.proofs.lemmas.Nat.Bits.{same_from_bits, bit_at_and}
use Rattle.std.specs.Int.{bit_at}
use Rattle.std.specs.List.{AllByRecursion}
use Rattle.x86_64_live.specs.PreparedMaps.{FlaggedEntriesStay, PreparedMapsAreMaps, SmallPreparationsAreSteps, empty_map}
use Rattle.x86_64_live.specs.Prepares.{Prepares}
use Rattle.x86_64_mappers.proofs.Map.TablesMade.{at_end, put_same, without_page}
use Rattle.x86_64_mappers.specs.Supplies.{Supply}
use Rattle.x86_64_mappers.specs.TablesAbove.{AfterTables}
use Rattle.x86_64_model.specs.Call.{NotAllowed}
use Rattle.x86_64_model.specs.Entry.{has, used, huge}
use Rattle.x86_64_model.specs.Hierarchy.{Hierarchy, SupplyFits, machine_of, paths, path_of, state_of, words}
use Rattle.x86_64_model.specs.Machine.{AfterCall, State, do_call, only_reply}
use Rattle.x86_64_model.specs.MapRule.{AfterMap, leaf_entry, map_rule}
use Rattle.x86_64_model.specs.Path.{parents, path_at}
use Rattle.x86_64_model.specs.PathMap.{PathMap, entry, put, HasUsedAlone}
use Rattle.x86_64_model.specs.Refusal.{Done, PageAlreadyMapped, Refused, ParentEntryHugePage, FrameAllocationFailed, refusal_of}
use Rattle.x86_64_model.specs.Standing.{IsParent}
use Rattle.x86_64_model.specs.Window.{outside_window}
use Rattle.x86_64_model.proofs.Lemmas.Entries.Bits.{unused_zero}
use Rattle.x86_64_model.proofs.Lemmas.Hierarchies.Trees.{IsTree, plain_table, tree_of_holds, used_table}
use Rattle.x86_64_model.proofs.Lemmas.Lists.All.{all_mapped}
use Rattle.x86_64_model.proofs.Lemmas.Maps.Down.{Descends, others, descends_same, step_used, step_huge, step_new, step_none, step_last}
use Rattle.x86_64_model.proofs.Lemmas.Maps.Rights.{Grows, map_grows}
use Rattle.x86_64_model.proofs.Lemmas.Maps.Trees.{page_descends, parents_short}
use Rattle.x86_64_model.proofs.Lemmas.Pairs.AlikeEntries.{or_part}
use Rattle.x86_64_model.proofs.Lemmas.Paths.Pages.{length_taken}
use Rattle.x86_64_model.proofs.Lemmas.Paths.Puts.{entry-put_other, used_alone-put}

-- an entry that has flags gains nothing by them
has_itself : (n : ℕ) → has n n ≡ true
unfolding has
has_itself n = eq-eqb (bit_and n n) n (same_from_bits (bit_and n n) n (λ i. bit_at_and n n i ∙ (let same : min (bit_at n i) (bit_at n i) ≡ bit_at n i = omega arith in same)))

no_more : (more e : ℕ) → IsParent more e → bit_or e more ≡ e
unfolding has
no_more more e parent = or_part e more (eqb-true (bit_and e more) more (parent.has_flags more (has_itself more)))

-- a map of the parents without a refusal left this path map and this supply
pub record Left (N : PathMap) (rest : List ℕ) (a : AfterMap) : Type 0 where
  pub made : a.paths ≡ N
  pub supply : a.supply ≡ rest
  pub none : refusal_of a.answer ≡ None

-- N and rest are what making the tables left
module _ (more added : ℕ) (q : List ℕ) (e frame : ℕ) (N : PathMap) (rest : List ℕ) (alone : HasUsedAlone N) where
  abbrev without : PathMap → (supply : List ℕ) → (ps : List (List ℕ)) → AfterMap
  without M supply ps = map_rule M supply more added ps [] 0 0

  -- a map comes to the page's own entry with what was left
  pub comes_down : (M : PathMap) (supply : List ℕ) (ps : List (List ℕ)) → Descends M ps q → Descends M ps [] → entry M [] ≡ 0 → HasUsedAlone M
      → Left N rest (without M supply ps) → map_rule M supply more added ps q e frame ≡ map_rule N rest more added [] q e frame
  comes_down M supply [] c d top own left =
      let is = at_end more added M supply [] own top in
      ap₂ (λ M supply. map_rule M supply more added [] q e frame) (sym (ap (λ (a : AfterMap). a.paths) is) ∙ left.made) (sym (ap (λ (a : AfterMap). a.supply) is) ∙ left.supply)
  comes_down M supply (p ∷ ps) c d top own left =
      let Comes : List ℕ → Type 0 = λ s. map_rule M s more added (p ∷ ps) q e frame ≡ map_rule N rest more added [] q e frame in
      let below : (x : ℕ) (s : List ℕ) → Left N rest (without (put M p x) s ps) → map_rule (put M p x) s more added ps q e frame ≡ map_rule N rest more added [] q e frame = λ x s.
      comes_down (put M p x) s ps (descends_same M (put M p x) ps q (others more added q e frame M p x ps c.1) c.3) (descends_same M (put M p x) ps [] (others more added [] 0 0 M p x ps d.1) d.3)
      (entry-put_other M p x [] d.2 ∙ top) (used_alone-put M p x own) in
      elim (used (entry M p)) as (λ u. used (entry M p) ≡ u → Left N rest (without M supply (p ∷ ps)) → Comes supply) [
        | true ↦ λ u. elim (huge (entry M p)) as (λ h. huge (entry M p) ≡ h → Left N rest (without M supply (p ∷ ps)) → Comes supply) [
          | true ↦ λ h l. absurd (let z : Some ParentEntryHugePage ≡ None = sym (ap (λ (a : AfterMap). refusal_of a.answer) (step_huge more added [] 0 0 M p ps d supply u h)) ∙ l.none in cc)
          | false ↦ λ h l. step_used more added q e frame M p ps c supply u h ∙ below (bit_or (entry M p) more) supply (subst (Left N rest) (step_used more added [] 0 0 M p ps d supply u h) l)
        ] refl
        | false ↦ λ u. elim supply as (λ s. Left N rest (without M s (p ∷ ps)) → Comes s) [
          | [] ↦ λ l. absurd (let z : Some FrameAllocationFailed ≡ None = sym (ap (λ (a : AfterMap). refusal_of a.answer) (step_none more added [] 0 0 M p ps d u)) ∙ l.none in cc)
          | f ∷ fs ↦ λ l. step_new more added q e frame M p ps c f fs u ∙ below (bit_or f (bit_or more added)) fs (subst (Left N rest) (step_new more added [] 0 0 M p ps d f fs u) l)
        ]
      ] refl left

  -- so does one that finds them
  pub goes_down : (ps : List (List ℕ)) → Descends N ps q → AllByRecursion (λ p. IsParent more (entry N p)) ps → map_rule N rest more added ps q e frame ≡ map_rule N rest more added [] q e frame
  goes_down [] d made = refl
  goes_down (p ∷ ps) d made =
      step_used more added q e frame N p ps d rest (used_table (entry N p) made.0.is_table) (plain_table (entry N p) made.0.is_table)
      ∙ ap (λ N. map_rule N rest more added ps q e frame) (put_same N p (bit_or (entry N p) more) alone (sym (no_more more (entry N p) made.0)))
      ∙ goes_down ps d.3 made.1

-- ---- a page that was prepared

module _ (h after : Hierarchy (Unit {0})) (supply rest : Supply) (level page more : ℕ) (fits : SupplyFits h supply.frames) (prepares : Prepares h supply level page more None after rest) where
  abbrev q : List ℕ
  q = path_of h level page

  abbrev added : ℕ
  added = h.layout.added_flags

  tree : (k : Hierarchy (Unit {0})) (pool : List ℕ) → SupplyFits k pool → IsTree k.layout.levels k.layout.root (paths k)
  tree k pool ready = tree_of_holds k.layout.levels (outside_window k.layout.window k.layout.root (words k)) k.layout.root (paths k) ready.valid.valid.holds

  before : IsTree h.layout.levels h.layout.root (paths h)
  before = tree h supply.frames fits

  now : IsTree after.layout.levels after.layout.root (paths after)
  now = tree after rest.frames ((prepares.done refl).fits (λ f. true) fits)

  way : Descends (paths h) (parents q) q
  way = page_descends h.layout.levels h.layout.root (paths h) before q

  without_entry : Descends (paths h) (parents q) []
  without_entry = without_page (paths h) (parents q) q (all_mapped _ _ (λ p (s : (0 < length p) × (length p < length q)). s.0) (parents q) (parents_short q)) way

  by_parents : (e frame : ℕ) → map_rule (paths h) supply.frames more added (parents q) q e frame ≡ map_rule (paths after) rest.frames more added [] q e frame
  by_parents e frame =
      let creates = prepares.done refl in
      comes_down more added q e frame (paths after) rest.frames now.used_alone (paths h) supply.frames (parents q) way without_entry before.nothing_above before.used_alone
      (record {
        made = sym (ap (λ (a : AfterTables). a.paths) creates.outcome);
        supply = sym (ap (λ (a : AfterTables). a.supply) creates.outcome);
        none = sym (ap (λ (a : AfterTables). a.refusal) creates.outcome);
      })

  again : (e frame : ℕ) → map_rule (paths after) rest.frames more added (parents q) q e frame ≡ map_rule (paths h) supply.frames more added (parents q) q e frame
  again e frame =
      goes_down more added q e frame (paths after) rest.frames now.used_alone (parents q) (page_descends after.layout.levels after.layout.root (paths after) now q) ((prepares.done refl).made refl)
      ∙ sym (by_parents e frame)

  grown : Grows more (paths h) (paths after)
  grown = subst (Grows more (paths h)) (sym (ap (λ (a : AfterTables). a.paths) (prepares.done refl).outcome)) (map_grows more added [] 0 0 (paths h) supply.frames (parents q) without_entry)

  -- with the word 0 nothing more is written
  abbrev found : AfterMap
  found = map_rule (paths after) rest.frames more added [] q 0 0

  abbrev state : AfterMap → State
  state a = record { paths = a.paths; pool = a.supply }

  nothing_written : state found ≡ state_of after rest.frames
  nothing_written = ap state (step_last more added q 0 0 (paths after) rest.frames) ∙ by (used (entry (paths after) q)) refl
    where
      by : (u : Bool) → used (entry (paths after) q) ≡ u
          → state (cond u (record { paths = paths after; supply = rest.frames; answer = Refused (PageAlreadyMapped 0) }) (record { paths = put (paths after) q 0; supply = rest.frames; answer = Done 0 })) ≡ state_of after rest.frames
      by true is = refl
      by false is = ap (λ N. record { paths = N; pool = rest.frames }) (put_same (paths after) q 0 now.used_alone (unused_zero (entry (paths after) q) is))

pub prepared_maps_are_maps : PreparedMapsAreMaps
prepared_maps_are_maps h after supply rest level page more fits prepares frame given =
    again h after supply rest level page more fits prepares (leaf_entry h.layout.levels (path_of h level page) frame given) frame

-- the entry of a page of 4KiB in frame 0 without flags
empty_entry : (L page : ℕ) → 0 < L → leaf_entry L (path_at L 1 page) 0 0 ≡ 0
empty_entry L page some = let long : length (path_at L 1 page) ≡ L = length_taken page (L + 1 - 1) L (omega arith) ∙ (let one : L + 1 - 1 ≡ L = omega arith in one) in
    ap (λ b. bit_or 0 (cond b 0 (bit_or 0 0x80))) (eq-eqb (length (path_at L 1 page)) L long)

pub small_preparations_are_steps : SmallPreparationsAreSteps
unfolding do_call
small_preparations_are_steps h after supply rest page more fits some prepares may take_back =
    ap (λ b. let a : AfterCall = cond b (do_call (machine_of h.layout take_back) (state_of h supply.frames) (empty_map page more)) (only_reply (state_of h supply.frames) NotAllowed) in a.state) may
    ∙ ap (λ e. state h after supply rest 1 page more fits prepares (map_rule (paths h) supply.frames more h.layout.added_flags (parents (path_of h 1 page)) (path_of h 1 page) e 0)) (empty_entry h.layout.levels page some)
    ∙ ap (state h after supply rest 1 page more fits prepares) (by_parents h after supply rest 1 page more fits prepares 0 0) ∙ nothing_written h after supply rest 1 page more fits prepares

pub flagged_entries_stay : FlaggedEntriesStay
flagged_entries_stay h after supply rest level page more fits prepares p is_used flagged =
    ⊎_elim (λ same. same) (λ more. more ∙ flagged) (grown h after supply rest level page more fits prepares p is_used)
