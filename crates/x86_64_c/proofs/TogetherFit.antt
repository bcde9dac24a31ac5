-- Address spaces in the caller's tables: the test that they fit together, and calls on one of them.
use Rattle.std.proofs.Common.{◌≡◌, ◌⊎◌, inl, inr, ⊎_elim, ◌↔◌, ℕ, Bool, true, List, [], ◌∷◌, length, IsTrue, Option, Some, None, refl, sym, ap, ◌∙◌, subst, arith}
use Rattle.std.proofs.lemmas.Bool.Decides.{eqb_tells}
use Rattle.std.proofs.lemmas.List.{map-id}
use Rattle.std.proofs.lemmas.Simd.{map-map}
use Rattle.std.specs.Option.{option_or}
use Rattle.x86_64_model.specs.Call.{IsCall}
use Rattle.x86_64_model.specs.Laws.Spaces.{KeepsRootEntries, SpacesStay, SharedHalvesStay, CallsKeepBelow}
use Rattle.x86_64_model.specs.Layout.{Layout}
use Rattle.x86_64_model.specs.Lists.{In, EachOnce}
use Rattle.x86_64_model.specs.Memory.{Memory, Places}
use Rattle.x86_64_model.specs.Hierarchy.{◌laid_in◌, paths}
use Rattle.x86_64_model.specs.Spaces.{AreSpaces, Avoids}
use Rattle.x86_64_model.specs.Store.{KeepsPool, put_first}
use Rattle.x86_64_model.proofs.Lemmas.Lists.Members.{in_map, from_map}
use Rattle.x86_64_mappers.specs.Layouts.{direct_at}
use Rattle.x86_64_spaces.specs.declared.space.SharedIndices.{SharedIndices}
use Rattle.x86_64_spaces.specs.declared.space.Space.{Space}
use Rattle.x86_64_spaces.specs.Room.{spaces_in, ShareWithRoom}
use Rattle.x86_64_spaces.specs.SpaceLayouts.{indices_of, space_layout, layouts_of, roots_of, spaces_at}
use Rattle.x86_64_tables.specs.LentMemory.{numbered}
use Rattle.x86_64_tables.specs.LentPool.{is_in, stacked}
use Rattle.x86_64_c.specs.AddressSpaces.{IsInOrder, layout_given, layouts_given, shared_in, space_at, FitTogether, SpacesFit, EachMayBeUsed, RequestsKeepSpaces, RequestsOrNothingKeepSpaces, ChangesKeepSpaces, OthersStay, RequestsKeepOthers, RequestsOrNothingKeepOthers}
use Rattle.x86_64.specs.Replies.{Reply}
use Rattle.x86_64.specs.Runs.{AfterStep}
use Rattle.x86_64_c.specs.Arguments.{bad_hierarchy}
use Rattle.x86_64_c.specs.PoolCalls.{Loan, loan, Executes, ExecutesOrNothing, wrong_pool_call, Request}
use Rattle.x86_64_c.specs.Status.{ok}
use Rattle.x86_64_c.specs.Validity.{test_status, TellsWhether}
use Rattle.x86_64_c.specs.declared.arguments.Hierarchy.{Hierarchy as Given}
use Rattle.x86_64_c.proofs.ArgumentsGiven.{four_or_five, given_is_mapping, segments_right}
use Rattle.x86_64_c.proofs.SpaceArguments.{tells}
use Rattle.x86_64_c.proofs.EntryChanges.{gives, plain}

-- ---- the test

module _ (places : Places) (levels : ℕ) (m : Memory) (roots : List ℕ) where
  same_layouts : layouts_of levels places m (spaces_at roots) ≡ layouts_given places levels roots
  same_layouts = map-map (space_layout levels places m) space_at roots

  same_roots : roots_of (spaces_at roots) ≡ roots
  same_roots = map-map (λ (s : Space). s.root) space_at roots ∙ map-id roots

module _ (shared : ℕ → Bool) (places : Places) (levels : ℕ) (roots : List ℕ) (lent : Loan) where
  abbrev Tested : Type 0
  Tested = ShareWithRoom shared (spaces_in levels places (numbered lent.tables) (spaces_at roots)) (length lent.array) (stacked lent.array lent.free)

  given_fit : Tested → SpacesFit shared places levels roots lent
  given_fit x = record {
    each_once = subst EachOnce (same_roots places levels (numbered lent.tables) roots) x.0;
    own = x.1.own;
    own_roots = λ root i. x.1.roots (direct_at levels places root)
        (subst (λ ls. In ls (direct_at levels places root)) (sym (same_layouts places levels (numbered lent.tables) roots))
        (in_map (λ root. direct_at levels places root) roots root i));
    fit = record {
      room = x.1.few;
      are_spaces = subst (AreSpaces shared (numbered lent.tables) (is_in x.1.own) (stacked lent.array lent.free)) (same_layouts places levels (numbered lent.tables) roots) x.1.spaces;
    };
  }

  tested_fit : SpacesFit shared places levels roots lent → Tested
  tested_fit x = (
    subst EachOnce (sym (same_roots places levels (numbered lent.tables) roots)) x.each_once,
    record {
      own = x.own;
      few = x.fit.room;
      roots = λ a i.
          let from = from_map (λ root. direct_at levels places root) roots a
          (subst (λ ls. In ls a) (same_layouts places levels (numbered lent.tables) roots) i) in
          subst (λ (a : Layout). is_in x.own a.root ≡ true) from.2 (x.own_roots from.0 from.1);
      spaces = subst (AreSpaces shared (numbered lent.tables) (is_in x.own) (stacked lent.array lent.free)) (sym (same_layouts places levels (numbered lent.tables) roots)) x.fit.are_spaces;
    },
  )

  fits_given : Tested ↔ SpacesFit shared places levels roots lent
  fits_given = (given_fit, tested_fit)

-- what the test tells, said of what the caller handed in
pub told : (places : Places) (levels from to : ℕ) (roots : List ℕ) (lent : Loan) (shared : SharedIndices) (m : Memory) → shared ≡ record { from = from; to = to } → m ≡ numbered lent.tables
    → (passed : Bool) (status : ℕ) → status ≡ test_status passed
    → (IsTrue passed ↔ ShareWithRoom (indices_of shared) (spaces_in levels places m (spaces_at roots)) (length lent.array) (stacked lent.array lent.free))
    → TellsWhether (SpacesFit (shared_in from to) places levels roots lent) status
told places levels from to roots lent shared m same tables passed status is means =
    tells passed status is
    (subst (λ m. IsTrue passed ↔ ShareWithRoom (shared_in from to) (spaces_in levels places m (spaces_at roots)) (length lent.array) (stacked lent.array lent.free)) tables
    (subst (λ s. IsTrue passed ↔ ShareWithRoom (indices_of s) (spaces_in levels places m (spaces_at roots)) (length lent.array) (stacked lent.array lent.free)) same means))
    (fits_given (shared_in from to) places levels roots lent)

-- ---- calls on one of them

pub none_first : (a b : Option ℕ) → option_or a b ≡ None → a ≡ None
none_first None b none = refl
none_first (Some x) b none = none

-- a hierarchy with no wrong argument has levels, and its segments are in order
pub is_right : (h : Given) (n : ℕ) → bad_hierarchy h n ≡ None → IsInOrder h
is_right h n good = (⊎_elim (λ four. omega (arith, four)) (λ five. omega (arith, five)) (four_or_five h n good), segments_right h n good)

pub each_may_be_used : EachMayBeUsed
each_may_be_used own shared spaces lent fit h member =
    let fits = fit.are_spaces.fits (layout_given h) member in (
      λ request. record { room = fit.room; fits = λ good. fits },
      λ request count. record { room = fit.room; fits = λ good. fits },
      λ wrong. record { room = fit.room; fits = λ good. fits },
    )

module _ (stay : SpacesStay) (own : List ℕ) (shared : ℕ → Bool) (spaces : List Layout) (h : Given) (member : In spaces (layout_given h)) where
  pub kept : (lent after : Loan) → FitTogether own shared spaces lent → IsInOrder h → length after.array ≡ length lent.array
      → KeepsPool (layout_given h) (is_in own) (numbered lent.tables) (stacked lent.array lent.free) (numbered after.tables) (stacked after.array after.free)
      → KeepsRootEntries shared (layout_given h) (numbered lent.tables) (numbered after.tables) → FitTogether own shared spaces after
  kept lent after fit some long keeps entries = record {
    room = let few = fit.room in omega (arith, few, long);
    are_spaces = stay shared spaces (layout_given h) member (given_is_mapping h some.1) some.0 (is_in own) (numbered lent.tables) (numbered after.tables) _ _ fit.are_spaces keeps entries;
  }

  executed : (lent after : Loan) → FitTogether own shared spaces lent → (request : Request) (status : ℕ) → Executes own h lent request status after
      → KeepsRootEntries shared (layout_given h) (numbered lent.tables) (numbered after.tables) → (wrong : Option ℕ) → wrong_pool_call h lent request ≡ wrong → FitTogether own shared spaces after
  executed lent after fit request status done entries None good =
      let right = none_first (bad_hierarchy h (length lent.tables)) _ good in
      kept lent after fit (is_right h (length lent.tables) right) done.room (done.runs good).keeps entries
  executed lent after fit request status done entries (Some why) wrong = subst (FitTogether own shared spaces) (sym (done.bad why wrong).1) fit

pub requests_keep_spaces : SpacesStay → RequestsKeepSpaces
requests_keep_spaces stay own shared spaces lent after fit h member request status done entries = executed stay own shared spaces h member lent after fit request status done entries (wrong_pool_call h lent request) refl

pub changes_keep_spaces : SpacesStay → ChangesKeepSpaces
changes_keep_spaces stay own shared spaces tables now array free fit h some member call answer status done entries =
    kept stay own shared spaces h member (loan tables array free) (loan now array free) fit some refl
    (done.keeps (is_in own) (stacked array free) (fit.are_spaces.fits (layout_given h) member)) entries

-- ---- requests that avoid the shared indices

module _ (stay : SpacesStay) (halves : SharedHalvesStay) (below : CallsKeepBelow) (own : List ℕ) (shared : ℕ → Bool) (spaces : List Layout) (h : Given) (member : In spaces (layout_given h))
    (lent after : Loan) (fit : FitTogether own shared spaces lent) (request : Request) (status : ℕ) (done : Executes own h lent request status after)
    (is_call : IsCall h.levels (request.call h.levels)) (avoids : Avoids h.levels shared (request.call h.levels)) where
  kept_others : (wrong : Option ℕ) → wrong_pool_call h lent request ≡ wrong → FitTogether own shared spaces after × OthersStay spaces h.root (numbered lent.tables) (numbered after.tables)
  kept_others None good =
      let one = layout_given h in
      let right = none_first (bad_hierarchy h (length lent.tables)) _ good in
      let some = is_right h (length lent.tables) right in
      let runs = done.runs good in
      let led = sym (ap (λ (x : AfterStep Reply). x.state) runs.step) in
      let fits = fit.are_spaces.fits one member in
      let kept_below = below shared one plain put_first gives (is_in own) (numbered lent.tables) (numbered after.tables) _ _
      (request.call h.levels ∷ []) (is_call, tt) fits led (avoids, tt) in (
        kept stay own shared spaces h member lent after fit some done.room runs.keeps (λ i s. kept_below (i ∷ []) s),
        λ other i apart. (halves shared one other (given_is_mapping h some.1) some.0 (is_in own) (numbered lent.tables) (numbered after.tables) _ _ fits runs.keeps kept_below
            (fit.are_spaces.share one other member i apart)).1,
      )
  kept_others (Some why) wrong =
      let same = (done.bad why wrong).1 in
      (subst (FitTogether own shared spaces) (sym same) fit, λ other i apart. ap (λ (l : Loan). paths (other laid_in numbered l.tables)) same)

pub requests_keep_others : SpacesStay → SharedHalvesStay → CallsKeepBelow → RequestsKeepOthers
requests_keep_others stay halves below own shared spaces lent after fit h member request status done is_call avoids =
    kept_others stay halves below own shared spaces h member lent after fit request status done is_call avoids (wrong_pool_call h lent request) refl

-- ---- requests that were executed or changed nothing

either : (own : List ℕ) (h : Given) (lent after : Loan) (request : Request) (status : ℕ) → ExecutesOrNothing own h lent request status after → Executes own h lent request status after ⊎ (after ≡ lent)
either own h lent after request status did = elim (eqb_tells status ok) [ inl is ↦ inl (did.done is.1) | inr other ↦ inr (did.refused other.1) ]

pub requests_or_nothing_keep_spaces : SpacesStay → RequestsOrNothingKeepSpaces
requests_or_nothing_keep_spaces stay own shared spaces lent after fit h member request status did entries =
    ⊎_elim (λ done. requests_keep_spaces stay own shared spaces lent after fit h member request status done entries)
    (λ same. subst (FitTogether own shared spaces) (sym same) fit) (either own h lent after request status did)

pub requests_or_nothing_keep_others : SpacesStay → SharedHalvesStay → CallsKeepBelow → RequestsOrNothingKeepOthers
requests_or_nothing_keep_others stay halves below own shared spaces lent after fit h member request status did is_call avoids =
    ⊎_elim (λ done. requests_keep_others stay halves below own shared spaces lent after fit h member request status done is_call avoids)
    (λ same. (subst (FitTogether own shared spaces) (sym same) fit, λ other i apart. ap (λ (l : Loan). paths (other laid_in numbered l.tables)) same)) (either own h lent after request status did)
