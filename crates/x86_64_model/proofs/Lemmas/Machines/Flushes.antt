-- What a step leaves of the walks that no recorded item covers.
use Rattle.std.proofs.Common.{◌≡◌, inl, ℕ, zero, suc, Bool, true, false, List, [], ◌∷◌, ◌++◌, take, drop, Option, refl, sym, ◌∙◌, subst, subst₂}
use Rattle.x86_64_model.specs.Entry.{IsParentFlags}
use Rattle.x86_64_model.specs.Memory.{Words}
use Rattle.x86_64_model.specs.PathMap.{entry, put}
use Rattle.x86_64_model.specs.Path.{parents, begins}
use Rattle.x86_64_model.specs.Window.{Window, IsValidFor, begins_with}
use Rattle.x86_64_model.specs.Position.{page_path}
use Rattle.x86_64_model.specs.PageWalk.{Walked, page_walk}
use Rattle.x86_64_model.specs.MapRule.{map_call, leaf_entry}
use Rattle.x86_64_model.specs.Pool.{TakesBack, Fits}
use Rattle.x86_64_model.specs.Call.{IsCall, Call}
use Rattle.x86_64_model.specs.Machine.{State, step, state_after}
use Rattle.x86_64_model.specs.Flush.{Item, items_of, all_items}
use Rattle.x86_64_model.proofs.Lemmas.Entries.Bits.{used_present}
use Rattle.x86_64_model.proofs.Lemmas.Walks.Walked.{walked, page_walk_is}
use Rattle.x86_64_model.proofs.Lemmas.Walks.Agrees.{reads}
use Rattle.x86_64_model.proofs.Lemmas.Maps.Flags.{Grown}
use Rattle.x86_64_model.proofs.Lemmas.Maps.Rights.{walked_grown, map_grows}
use Rattle.x86_64_model.proofs.Lemmas.Walks.Fronts.{walked_same, walked_outside, put_same}
use Rattle.x86_64_model.specs.Arrivals.{Arrives}
use Rattle.x86_64_model.proofs.Lemmas.CleanUps.Arrivals.{walked_cleaned}
use Rattle.x86_64_model.proofs.Lemmas.Maps.Trees.{page_descends}
use Rattle.x86_64_model.proofs.Lemmas.Machines.Effects.{MapMay, step_ind, machine}
use Rattle.x86_64_model.proofs.Lemmas.Machines.States.{IsSound, step_sound, run_sound}
use Rattle.x86_64_model.specs.Laws.Steps.{AllCalls}
use Rattle.x86_64_model.proofs.Lemmas.Machines.Fitting.{sound_of_fits}
pub use Rattle.x86_64_model.specs.Arrivals.{NoWorse, KeepsArrival}
pub use Rattle.x86_64_model.specs.Laws.Steps.{NoneCovers}

pub keeps_same : (x y : Option Walked) → y ≡ x → KeepsArrival x y
keeps_same x y e w is = (w, e ∙ is, record { same_place = refl; write_kept = λ h. h; user_kept = λ h. h })

pub keeps_then : (x y z : Option Walked) → KeepsArrival x y → KeepsArrival y z → KeepsArrival x z
keeps_then x y z a b w is = let v = a w is in let u = b v.0 v.1 in (
  u.0,
  u.1,
  record {
    same_place = u.2.same_place ∙ v.2.same_place;
    write_kept = λ h. u.2.write_kept (v.2.write_kept h);
    user_kept = λ h. u.2.user_kept (v.2.user_kept h);
  },
)

keeps_arrives : (more : ℕ) (x y : Option Walked) → Arrives more x y → KeepsArrival x y
keeps_arrives more x y a w is = let v = a w is in (v.0, v.1, v.2.no_worse)

module _ (L : ℕ) (window : Option Window) (root : ℕ) (serves : ℕ → Bool) (s : State) (sound : IsSound L window root serves s) (p : ℕ) where
  map_keeps : (more added : ℕ) → (q : List ℕ) (frame given : ℕ) → MapMay window s.paths q given more
      → KeepsArrival (walked (entry s.paths) p L [] true true) (walked (entry (map_call L s.paths s.pool more added q frame given).paths) p L [] true true)
  map_keeps more added q frame given may =
      let g : (r : List ℕ) → Grown more (entry s.paths r) (entry (map_call L s.paths s.pool more added q frame given).paths r) =
      λ r h. map_grows more added q (leaf_entry L q frame given) frame s.paths s.pool (parents q) (page_descends L root s.paths sound.hierarchy.tree q) r (used_present _ h) in
      keeps_arrives more _ _ (walked_grown more p (entry s.paths) (entry (map_call L s.paths s.pool more added q frame given).paths) may.marks g L [] true true true true (λ h. h, λ h. inl h) (λ h. h, λ h. inl h))

  change_keeps : (q : List ℕ) (w : ℕ) → begins q (page_path L p) ≡ false → walked (entry (put s.paths q w)) p L [] true true ≡ walked (entry s.paths) p L [] true true
  change_keeps q w h = walked_same L p (entry (put s.paths q w)) (entry s.paths) (put_same L p s.paths q w h) L [] true true refl

  -- one step: where no item that it records covers the position
  pub step_keeps : (added : ℕ) (take_back : List ℕ → ℕ → List ℕ) (call : Call) → IsCall L call → NoneCovers L (items_of L call (step (machine L window added take_back) s call).reply) p
      → KeepsArrival (walked (entry s.paths) p L [] true true) (walked (entry (step (machine L window added take_back) s call).state.paths) p L [] true true)
  step_keeps added take_back call is = step_ind L window added take_back root s sound.hierarchy (λ t items. NoneCovers L items p → KeepsArrival (walked (entry s.paths) p L [] true true) (walked (entry t.paths) p L [] true true))
      (λ n. keeps_same _ _ refl)
      (λ q frame given more items page may n. map_keeps more added q frame given may)
      (λ q w item c covered n. keeps_same _ _ (change_keeps q w (covered p n.0)))
      (λ low high n. keeps_same _ _ (walked_cleaned L root s.paths sound.hierarchy.tree low high p)) call is

split : (L : ℕ) (xs ys : List Item) (p : ℕ) → NoneCovers L (xs ++ ys) p → NoneCovers L xs p × NoneCovers L ys p
split L [] ys p h = (tt, h)
split L (x ∷ xs) ys p h = let more = split L xs ys p h.1 in ((h.0, more.0), more.1)

pub run_keeps : (L : ℕ) (window : Option Window) (root : ℕ) (serves : ℕ → Bool) (added : ℕ) → IsParentFlags added → (take_back : List ℕ → ℕ → List ℕ) → TakesBack take_back
    → (calls : List Call) → AllCalls L calls → (s : State) → IsSound L window root serves s → (p : ℕ) → NoneCovers L (all_items (machine L window added take_back) s calls) p
    → KeepsArrival (walked (entry s.paths) p L [] true true) (walked (entry (state_after (machine L window added take_back) s calls).paths) p L [] true true)
run_keeps L window root serves added adds take_back gives [] is s sound p n = keeps_same _ _ refl
run_keeps L window root serves added adds take_back gives (call ∷ calls) is s sound p n = let parts = split L _ _ p n in
    keeps_then _ _ _ (step_keeps L window root serves s sound p added take_back call is.0 parts.0)
    (run_keeps L window root serves added adds take_back gives calls is.1 _ (step_sound L window root serves s sound added adds take_back gives call is.0) p parts.1)

-- ---- after the first k calls

pub take_all : (L k : ℕ) (calls : List Call) → AllCalls L calls → AllCalls L (take k calls) × AllCalls L (drop k calls)
take_all L zero calls h = (tt, h)
take_all L (suc k) [] h = (tt, tt)
take_all L (suc k) (call ∷ calls) h = let more = take_all L k calls h.1 in ((h.0, more.0), more.1)

pub state_split : (L : ℕ) (window : Option Window) (added : ℕ) (take_back : List ℕ → ℕ → List ℕ) (k : ℕ) (calls : List Call) (s : State)
    → state_after (machine L window added take_back) (state_after (machine L window added take_back) s (take k calls)) (drop k calls) ≡ state_after (machine L window added take_back) s calls
state_split L window added take_back zero calls s = refl
state_split L window added take_back (suc k) [] s = refl
state_split L window added take_back (suc k) (call ∷ calls) s = state_split L window added take_back k calls (step (machine L window added take_back) s call).state

-- Where the walk arrives in words that hold the state after the first k calls, and no item of a later call covers the position, which is outside the window:
-- there it arrives at the end too, at the same address and with no right lost.
pub flushes_suffice : (L : ℕ) (window : Option Window) (T V U : Words) (root : ℕ) (serves : ℕ → Bool) (added : ℕ) → IsParentFlags added → (take_back : List ℕ → ℕ → List ℕ) → TakesBack take_back
    → (s : State) (calls : List Call) → AllCalls L calls → Fits L window T root s.paths serves s.pool
    → (k : ℕ) → IsValidFor L window V root (state_after (machine L window added take_back) s (take k calls)).paths → IsValidFor L window U root (state_after (machine L window added take_back) s calls).paths
    → (p : ℕ) → begins_with window (page_path L p) ≡ false → NoneCovers L (all_items (machine L window added take_back) (state_after (machine L window added take_back) s (take k calls)) (drop k calls)) p
    → KeepsArrival (page_walk L V root p) (page_walk L U root p)
flushes_suffice L window T V U root serves added adds take_back gives s calls is fits k first last p out none =
    let parts = take_all L k calls is in
    let sound = run_sound L window root serves added adds take_back gives (take k calls) parts.0 s (sound_of_fits L window T root serves s fits) in
    let kept = run_keeps L window root serves added adds take_back gives (drop k calls) parts.1 _ sound p none in
    subst₂ KeepsArrival
    (sym (page_walk_is L V root _ (reads L V root _ window first) p ∙ walked_outside L window _ p out))
    (sym (page_walk_is L U root _ (reads L U root _ window last) p ∙ walked_outside L window _ p out))
    (subst (λ t. KeepsArrival (walked (entry (state_after (machine L window added take_back) s (take k calls)).paths) p L [] true true) (walked (entry t.paths) p L [] true true)) (state_split L window added take_back k calls s) kept)
