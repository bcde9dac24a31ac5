-- Runs of maps, one map after another.
use Rattle.std.proofs.Common.{zero, suc, ◌≡◌, ◌+◌, ℕ, true, cond, List, [], ◌∷◌, ◌++◌, Option, inl, inr, refl, sym, ap, ap₂, ◌∙◌, subst, arith, add-one}
use Rattle.std.proofs.lemmas.Bool.{and_from, and_parts}
use Rattle.std.proofs.lemmas.List.FromFn.{map-range_with_len_more}
use Rattle.x86_64_model.specs.Allowed.{map_allowed, parents_present}
use Rattle.x86_64_model.specs.Arrivals.{Arrives, Better}
use Rattle.x86_64_model.specs.Call.{Reply, Answered, NotAllowed}
use Rattle.x86_64_model.specs.Entry.{IsParentFlags}
use Rattle.x86_64_model.specs.Layout.{Layout}
use Rattle.x86_64_model.specs.Machine.{AfterCall, State, do_call, after_map, step, only_reply, replies_of, state_after}
use Rattle.x86_64_model.specs.MapRule.{leaf_entry}
use Rattle.x86_64_model.specs.Hierarchy.{◌laid_in◌, Hierarchy, machine_of, state_in, paths, walk}
use Rattle.x86_64_model.specs.Memory.{Memory}
use Rattle.x86_64_model.specs.PageWalk.{Walked}
use Rattle.x86_64_model.specs.Path.{path_at}
use Rattle.x86_64_model.specs.PathMap.{PathMap}
use Rattle.x86_64_model.specs.Refusal.{Answer, Done}
use Rattle.x86_64_model.specs.Window.{Window}
use Rattle.x86_64_model.proofs.Lemmas.Machines.Owners.{does_map}
use Rattle.x86_64_model.proofs.Lemmas.Maps.Mapped.{walks_after}
use Rattle.x86_64_model.proofs.Lemmas.Runs.Runs.{replies_append, state_append}
use Rattle.x86_64_mappers.specs.Ranges.{MapRange, DoesMaps, IsNextMap, MapsEach, range_page, range_frame, map_at, maps, accepted_maps}
use Rattle.x86_64_mappers.specs.private.RangeSteps.{IsRangeRun}
use Rattle.x86_64_mappers.proofs.Entry.EntryEnds.{with_memory}
use Rattle.x86_64_mappers.proofs.Map.OwnedWays.{owned_then}
use Rattle.x86_64_mappers.proofs.Map.StepOutcomes.{IsPathMapped}
use Rattle.x86_64_mappers.proofs.Range.GrownParents.{parents_mapped}

-- ---- conditions

-- a map stays allowed if its page's parents stay present
pub allowed_still : (L : ℕ) (window : Option Window) (M N : PathMap) (q : List ℕ) (given more : ℕ) → (parents_present M more q ≡ true → parents_present N more q ≡ true) → map_allowed L window M q given more ≡ true → map_allowed L window N q given more ≡ true
allowed_still L window M N q given more still allowed =
    let parts = and_parts _ _ allowed in
    let flags = and_parts _ _ parts.0 in
    and_from _ _ (and_from _ _ flags.0 (still flags.1)) parts.1

-- ---- walks

better_then : (more : ℕ) (w v x : Walked) → Better more w v → Better more v x → Better more w x
better_then more w v x one two = record {
  no_worse = record {
    same_place = two.no_worse.same_place ∙ one.no_worse.same_place;
    write_kept = λ h. two.no_worse.write_kept (one.no_worse.write_kept h);
    user_kept = λ h. two.no_worse.user_kept (one.no_worse.user_kept h);
  };
  write_gained = λ h. elim (two.write_gained h) [ inl g ↦ one.write_gained g | inr g ↦ inr g ];
  user_gained = λ h. elim (two.user_gained h) [ inl g ↦ one.user_gained g | inr g ↦ inr g ];
}

arrives_then : (more : ℕ) (x y z : Option Walked) → Arrives more x y → Arrives more y z → Arrives more x z
arrives_then more x y z one two w is =
    let v = one w is in
    let u = two v.0 v.1 in
    (u.0, u.1, better_then more w v.0 u.0 v.2 u.2)

-- ---- runs

pub accepted_more : (r : MapRange) (k : ℕ) → accepted_maps r (k + 1) ≡ accepted_maps r k ++ Answered (Done (range_frame r k)) ∷ []
accepted_more r k = map-range_with_len_more (λ k. Answered (Done (range_frame r k))) 0 k k (let e : 0 + k ≡ k = omega arith in e)

maps_more : (r : MapRange) (k : ℕ) → maps r (k + 1) ≡ maps r k ++ map_at r k ∷ []
maps_more r k = map-range_with_len_more (λ k. map_at r k) 0 k k (let e : 0 + k ≡ k = omega arith in e)

module _ (l : Layout) (m : Memory) (s : List ℕ) (r : MapRange) (k : ℕ) (marks : IsParentFlags r.parent_flags) (n : Memory) (rest : List ℕ) (replies : List Reply) (run : IsRangeRun l m s r k replies n rest) where
  abbrev q : List ℕ
  q = path_at l.levels r.level (range_page r k)

  -- one map more
  module _ (allowed : map_allowed l.levels l.window (paths (l laid_in n)) q r.flags r.parent_flags ≡ true) (answer : Answer) (o : Memory) (fs : List ℕ)
      (mapped : IsPathMapped l n rest r.parent_flags q (leaf_entry l.levels q (range_frame r k) r.flags) (range_frame r k) answer o fs) where
    one : (take_back : List ℕ → ℕ → List ℕ) → step (machine_of l take_back) (state_in l n rest) (map_at r k) ≡ record { state = state_in l o fs; reply = Answered answer }
    unfolding do_call
    one take_back = ap (λ b. cond b (do_call (machine_of l take_back) (state_in l n rest) (map_at r k)) (only_reply (state_in l n rest) NotAllowed)) allowed
        ∙ ap after_map mapped.outcome

    walks_on : (p : ℕ) → Arrives r.parent_flags (walk (l laid_in n) p) (walk (l laid_in o) p)
    walks_on = walks_after l n rest q (range_frame r k) r.flags r.parent_flags answer o fs marks run.owned.ready mapped.outcome mapped.owned.ready

    next : IsNextMap (l laid_in n) rest (map_at r k) replies (replies ++ Answered answer ∷ []) (l laid_in o) fs
    next = record {
      answer = answer;
      may = record { fits = run.owned.ready; allowed = allowed };
      does = does_map (l laid_in n) rest q (range_frame r k) r.flags r.parent_flags answer o fs (record { outcome = mapped.outcome; ready = mapped.owned.ready; others = mapped.owned.others; walks = walks_on });
      last = refl;
    }

    pub one_more : IsRangeRun l m s r (k + 1) (replies ++ Answered answer ∷ []) o fs
    one_more = record {
      replies = λ take_back.
          let machine = machine_of l take_back in
          let start = state_in l m s in
          ap (replies_of machine start) (maps_more r k)
          ∙ replies_append machine start (maps r k) (map_at r k ∷ [])
          ∙ ap₂ (λ rs (t : State). rs ++ (step machine t (map_at r k)).reply ∷ []) (run.replies take_back) (run.state take_back)
          ∙ ap (λ (x : AfterCall). replies ++ x.reply ∷ []) (one take_back);
      state = λ take_back.
          let machine = machine_of l take_back in
          let start = state_in l m s in
          ap (state_after machine start) (maps_more r k)
          ∙ state_append machine start (maps r k) (map_at r k ∷ [])
          ∙ ap (λ (t : State). (step machine t (map_at r k)).state) (run.state take_back)
          ∙ ap (λ (x : AfterCall). x.state) (one take_back);
      owned = owned_then l m s n rest o fs run.owned mapped.owned;
      walks = λ p. arrives_then r.parent_flags (walk (l laid_in m) p) (walk (l laid_in n) p) (walk (l laid_in o) p) (run.walks p) (walks_on p);
      each = subst (λ j. MapsEach (l laid_in m) s r j (replies ++ Answered answer ∷ []) (l laid_in o) fs) (sym (add-one k)) ((l laid_in n), rest, replies, run.each, next);
      parents = λ p h. parents_mapped l n rest run.owned.ready r.parent_flags marks q (leaf_entry l.levels q (range_frame r k) r.flags) (range_frame r k) answer o fs mapped p (run.parents p h);
    }

-- ---- ends

-- each map, whatever was lent
module _ {Lent : Type 0} (lent : Lent) where
  abbrev with_loan : Hierarchy (Unit {0}) → Hierarchy Lent
  with_loan h = record { layout = h.layout; memory = h.memory; lent = lent }

  each_with : (h : Hierarchy (Unit {0})) (supply : List ℕ) (r : MapRange) (count : ℕ) (answers : List Reply) (after : Hierarchy (Unit {0})) (rest : List ℕ) → MapsEach h supply r count answers after rest
      → MapsEach (with_loan h) supply r count answers (with_loan after) rest
  each_with h supply r zero answers after rest (none, same, left) = (none, ap with_loan same, left)
  each_with h supply r (suc k) answers after rest (now, left, before, each, next) = (
    with_loan now,
    left,
    before,
    each_with h supply r k before now left each,
    record {
      answer = next.answer;
      may = record { fits = next.may.fits; allowed = next.may.allowed };
      does = record {
        outcome = next.does.outcome;
        fits = next.does.fits;
        walks = next.does.walks;
        keeps = record { valid = next.does.keeps.valid; others = next.does.keeps.others; layout = next.does.keeps.layout; lent = refl };
      };
      last = next.last;
    },
  )

-- what a run leaves in the hierarchy that a mapper owns
pub ends_run : {Lent : Type 0} (h : Hierarchy Lent) (supply : List ℕ) (r : MapRange) (k : ℕ) (replies : List Reply) (after : Hierarchy Lent) (rest : List ℕ) → after.layout ≡ h.layout → after.lent ≡ h.lent
    → IsRangeRun h.layout h.memory supply r k replies after.memory rest → DoesMaps h supply r k replies after rest
ends_run h supply r k replies after rest layout lent run = subst (λ h'. DoesMaps h supply r k replies h' rest) (with_memory h after layout lent) (record {
  replies = run.replies;
  state = run.state;
  fits = run.owned.ready;
  walks = run.walks;
  each = each_with h.lent (h.layout laid_in h.memory) supply r k replies (h.layout laid_in after.memory) rest run.each;
  keeps = record { valid = run.owned.ready.valid; others = run.owned.others; layout = refl; lent = refl };
})
