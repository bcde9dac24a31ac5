-- The processor's page walks after a map call of a list.
use Rattle.std.proofs.Common.{zero, suc, ◌≡◌, ◌+◌, ◌%◌, ℕ, true, List, [], ◌∷◌, length, take, Option, Some, inl, refl, sym, ap, ◌∙◌, subst, arith, eqb-true}
use Rattle.std.proofs.lemmas.Bool.{and_parts}
use Rattle.std.proofs.lemmas.Option.{same_Some}
use Rattle.std.specs.List.{AllByRecursion, slice_get}
use Rattle.x86_64_model.specs.Allowed.{map_allowed, allowed}
use Rattle.x86_64_model.specs.Arrivals.{Arrives, Asks}
use Rattle.x86_64_model.specs.Call.{Call, MapTo, MapToWithTableFlags, IdentityMap, Unmap, UpdateFlags, SetFlags, TranslatePage, Translate, TranslateAddress, CleanUp, Answered, parent_flags_of}
use Rattle.x86_64_model.specs.Entry.{writable, user, address}
use Rattle.x86_64_model.specs.Conserved.{IsFrame}
use Rattle.x86_64_model.specs.Lists.{In}
use Rattle.x86_64_model.specs.Machine.{Machine, IsMachine, State, do_call, step, state_after}
use Rattle.x86_64_model.specs.MapRule.{AfterMap, map_call, parent_part}
use Rattle.x86_64_model.specs.Memory.{Words}
use Rattle.x86_64_model.specs.PageWalk.{Walked, page_walk}
use Rattle.x86_64_model.specs.Path.{path_at}
use Rattle.x86_64_model.specs.PathMap.{PathMap}
use Rattle.x86_64_model.specs.Position.{span, page_path}
use Rattle.x86_64_model.specs.Refusal.{Answer, Done}
use Rattle.x86_64_model.specs.Window.{IsValidFor}
use Rattle.x86_64_model.specs.Laws.Steps.{RunMapsKeepWalks, RunMapsArrive, mapping_asked}
use Rattle.x86_64_model.proofs.Lemmas.Machines.Effects.{map_may, step_cases}
use Rattle.x86_64_model.proofs.Lemmas.Machines.Flushes.{take_all}
use Rattle.x86_64_model.proofs.Lemmas.Machines.Laws.{run_is_held}
use Rattle.x86_64_model.proofs.Lemmas.Machines.States.{all_in}
use Rattle.x86_64_model.proofs.Lemmas.Maps.Arrives.{map_to_arrives}
use Rattle.x86_64_model.proofs.Lemmas.Maps.Calls.{map_call_keeps_walks}
use Rattle.x86_64_model.proofs.Lemmas.Walks.Agrees.{reads}
use Rattle.x86_64_model.proofs.Lemmas.Walks.Walked.{page_walk_is}

-- words of the same path map have the same walks
same_walks : (m : Machine) (V U : Words) (root : ℕ) (M : PathMap) → IsValidFor m.levels m.window V root M → IsValidFor m.levels m.window U root M → (p : ℕ) → page_walk m.levels U root p ≡ page_walk m.levels V root p
same_walks m V U root M first last p = page_walk_is m.levels U root _ (reads m.levels U root M m.window last) p ∙ sym (page_walk_is m.levels V root _ (reads m.levels V root M m.window first) p)

arrives_same : (more : ℕ) (x y : Option Walked) → y ≡ x → Arrives more x y
arrives_same more x y same w is = (
  w,
  same ∙ is,
  record {
    no_worse = record { same_place = refl; write_kept = λ h. h; user_kept = λ h. h };
    write_gained = λ h. inl h;
    user_gained = λ h. inl h;
  },
)

-- the state after one call more
pub next_state : (m : Machine) (s : State) (calls : List Call) (k : ℕ) (call : Call) → slice_get calls k ≡ Some call → state_after m s (take (suc k) calls) ≡ (step m (state_after m s (take k calls)) call).state
next_state m s [] k call is = cc
next_state m s (first ∷ calls) zero call is = let same : first ≡ call = cc in ap (λ c. (step m s c).state) same
next_state m s (first ∷ calls) (suc k) call is = next_state m (step m s first).state calls k call is

module _ (m : Machine) (s : State) (V U : Words) (root more : ℕ) where
  abbrev Kept : (M : PathMap) → Type 0
  Kept M = IsValidFor m.levels m.window V root s.paths → IsValidFor m.levels m.window U root M → (p : ℕ) → Arrives more (page_walk m.levels V root p) (page_walk m.levels U root p)

  done_keeps : (call : Call) → allowed m.levels m.window s.paths call ≡ true → parent_flags_of call ≡ Some more → Kept (do_call m s call).state.paths
  unfolding do_call
  done_keeps (MapTo level page frame given) h is = let q = path_at m.levels level page in
      let same : parent_part given ≡ more = cc in
      λ before after p. subst (λ f. Arrives f (page_walk m.levels V root p) (page_walk m.levels U root p)) same
      (map_call_keeps_walks m.levels m.window V U root s.paths s.pool (parent_part given) m.added_flags q frame given (map_may m.levels m.window s.paths q given _ h).marks (record { before = before; after = after }) p)
  done_keeps (MapToWithTableFlags level page frame given parent_flags) h is = let q = path_at m.levels level page in
      let same : parent_flags ≡ more = cc in
      λ before after p. subst (λ f. Arrives f (page_walk m.levels V root p) (page_walk m.levels U root p)) same
      (map_call_keeps_walks m.levels m.window V U root s.paths s.pool parent_flags m.added_flags q frame given (map_may m.levels m.window s.paths q given parent_flags h).marks (record { before = before; after = after }) p)
  done_keeps (IdentityMap level frame given) h is =
      let same : parent_part given ≡ more = cc in
      λ before after p. subst (λ f. Arrives f (page_walk m.levels V root p) (page_walk m.levels U root p)) same
      (map_call_keeps_walks m.levels m.window V U root s.paths s.pool (parent_part given) m.added_flags (path_at m.levels level frame) frame given
      (map_may m.levels m.window s.paths (path_at m.levels level frame) given _ (and_parts _ _ h).1).marks (record { before = before; after = after }) p)
  done_keeps (Unmap level page) h is = cc
  done_keeps (UpdateFlags level page given) h is = cc
  done_keeps (SetFlags at level page given) h is = cc
  done_keeps (TranslatePage level page) h is = cc
  done_keeps (Translate t) h is = cc
  done_keeps (TranslateAddress t) h is = cc
  done_keeps (CleanUp low high) h is = cc

  pub step_keeps_walks : (call : Call) → parent_flags_of call ≡ Some more → Kept (step m s call).state.paths
  step_keeps_walks call is = step_cases m s call (λ after. Kept after.state.paths) (λ h. done_keeps call h is) (λ before after p. arrives_same more _ _ (same_walks m V U root s.paths before after p))

pub run_maps_keep_walks : RunMapsKeepWalks
run_maps_keep_walks m V U root s calls k more call there is before after =
    step_keeps_walks m (state_after m s (take k calls)) V U root more call is before
    (subst (λ (t : State). IsValidFor m.levels m.window U root t.paths) (ap (λ n. state_after m s (take n calls)) one_more ∙ next_state m s calls k call there) after)
  where
    one_more : k + 1 ≡ suc k
    one_more = omega arith

-- ---- arrivals

answered : {a : Answer} {frame : ℕ} → Answered a ≡ Answered (Done frame) → a ≡ Done frame
answered e = cc

module _ (m : Machine) (is : IsMachine m) (s : State) (V U : Words) (root level frame given : ℕ) (q : List ℕ) (asks : Asks m.levels level q frame given) (frames : AllByRecursion IsFrame s.pool) (p : ℕ) (within : take (length q) (page_path m.levels p) ≡ q) where
  abbrev Arrived : Type 0
  Arrived = page_walk m.levels U root p ≡ Some (record { address = frame + p % span level; write = writable given; user = user given })

  -- the effect of a map of the page
  abbrev mapped : AfterMap
  mapped = map_call m.levels s.paths s.pool (parent_part given) m.added_flags q frame given

  map_arrives : map_allowed m.levels m.window s.paths q given (parent_part given) ≡ true → mapped.answer ≡ Done frame → IsValidFor m.levels m.window V root s.paths → IsValidFor m.levels m.window U root mapped.paths → Arrived
  map_arrives h accepted before after =
      map_to_arrives m.levels level m.window V U root s.paths s.pool m.added_flags q frame given
      (record { asks = asks; adds = is.adds; outside = (map_may m.levels m.window s.paths q given _ h).outside; frames = frames; words = record { before = before; after = after }; answer = accepted }) p within

  asked_arrives : (t : List ℕ × (ℕ × ℕ)) → t ≡ (q, (frame, given)) → map_allowed m.levels m.window s.paths t.0 t.1.1 (parent_part t.1.1) ≡ true
      → (map_call m.levels s.paths s.pool (parent_part t.1.1) m.added_flags t.0 t.1.0 t.1.1).answer ≡ Done frame → IsValidFor m.levels m.window V root s.paths
      → IsValidFor m.levels m.window U root (map_call m.levels s.paths s.pool (parent_part t.1.1) m.added_flags t.0 t.1.0 t.1.1).paths → Arrived
  asked_arrives t same = subst (λ t. map_allowed m.levels m.window s.paths t.0 t.1.1 (parent_part t.1.1) ≡ true
      → (map_call m.levels s.paths s.pool (parent_part t.1.1) m.added_flags t.0 t.1.0 t.1.1).answer ≡ Done frame → IsValidFor m.levels m.window V root s.paths
      → IsValidFor m.levels m.window U root (map_call m.levels s.paths s.pool (parent_part t.1.1) m.added_flags t.0 t.1.0 t.1.1).paths → Arrived)
      (sym same) map_arrives

  done_arrives : (call : Call) → allowed m.levels m.window s.paths call ≡ true → mapping_asked m.levels call ≡ Some (q, (frame, given)) → (do_call m s call).reply ≡ Answered (Done frame)
      → IsValidFor m.levels m.window V root s.paths → IsValidFor m.levels m.window U root (do_call m s call).state.paths → Arrived
  unfolding do_call
  done_arrives (MapTo level page f g) h asked accepted = let r = path_at m.levels level page in asked_arrives (r, (f, g)) (same_Some _ _ asked) h (answered accepted)
  done_arrives (IdentityMap n f g) h asked accepted = asked_arrives (path_at m.levels n f, (f, g)) (same_Some _ _ asked) (and_parts _ _ h).1 (answered accepted)
  done_arrives (MapToWithTableFlags level page f g more) h asked accepted = cc
  done_arrives (Unmap level page) h asked accepted = cc
  done_arrives (UpdateFlags level page g) h asked accepted = cc
  done_arrives (SetFlags at level page g) h asked accepted = cc
  done_arrives (TranslatePage level page) h asked accepted = cc
  done_arrives (Translate t) h asked accepted = cc
  done_arrives (TranslateAddress t) h asked accepted = cc
  done_arrives (CleanUp low high) h asked accepted = cc

  pub step_arrives : (call : Call) → mapping_asked m.levels call ≡ Some (q, (frame, given)) → (step m s call).reply ≡ Answered (Done frame)
      → IsValidFor m.levels m.window V root s.paths → IsValidFor m.levels m.window U root (step m s call).state.paths → Arrived
  step_arrives call asked = step_cases m s call (λ after. after.reply ≡ Answered (Done frame) → IsValidFor m.levels m.window V root s.paths → IsValidFor m.levels m.window U root after.state.paths → Arrived)
      (λ h. done_arrives call h asked) (λ accepted. cc)

pub run_maps_arrive : RunMapsArrive
run_maps_arrive m is T U root serves s calls all fits k level frame given q call there asked asks accepted after p within =
    let held = run_is_held m is T root serves s (take k calls) (take_all m.levels k calls all).0 fits in
    let now = state_after m s (take k calls) in
    let frames = all_in now.pool (λ f i. record { aligned = eqb-true (address f) f (held.1.are_frames f i); not_zero = λ z. held.1.not_zero (subst (In now.pool) z i) }) in
    step_arrives m is now held.0 U root level frame given q asks frames p within call asked accepted held.1.valid
    (subst (λ (t : State). IsValidFor m.levels m.window U root t.paths) (ap (λ n. state_after m s (take n calls)) one_more ∙ next_state m s calls k call there) after)
  where
    one_more : k + 1 ≡ suc k
    one_more = omega arith
