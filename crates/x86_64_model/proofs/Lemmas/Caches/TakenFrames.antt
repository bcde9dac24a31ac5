-- Which frames of the pool a call takes: none if it is no map, and of the first ones otherwise.
use Rattle.std.proofs.Common.{suc, zero, ◌⊎◌, inl, inr, ⊎_elim, ◌≤◌, ◌-◌, ℕ, Bool, List, [], ◌∷◌, ◌++◌, length, take, sym, subst, arith}
use Rattle.x86_64_model.specs.Lists.{In}
use Rattle.x86_64_model.specs.CleanUp.{clean_up}
use Rattle.x86_64_model.specs.Conserved.{Takes}
use Rattle.x86_64_model.specs.MapRule.{map_call}
use Rattle.x86_64_model.specs.Call.{Call, IsCall}
use Rattle.x86_64_model.specs.Machine.{Machine, IsMachine, State, step}
use Rattle.x86_64_model.specs.Laws.Caches.{OnlyMapsTakeFrames, FirstFramesAreTaken}
use Rattle.x86_64_model.proofs.Lemmas.CleanUps.Trees.{given_frames}
use Rattle.x86_64_model.proofs.Lemmas.Lists.Members.{in_append, in_right}
use Rattle.x86_64_model.proofs.Lemmas.Machines.Effects.{step_ind}
use Rattle.x86_64_model.proofs.Lemmas.Machines.Fitting.{sound_of_fits}
use Rattle.x86_64_model.proofs.Lemmas.Machines.States.{IsSound}
use Rattle.x86_64_model.proofs.Lemmas.Maps.Takes.{map_takes}
use Rattle.x86_64_model.proofs.Lemmas.Caches.Calls.{call_does}

in_first : (n : ℕ) (taken rest : List ℕ) (f : ℕ) → length taken ≤ n → In taken f → In (take n (taken ++ rest)) f
in_first n [] rest f l i = absurd i
in_first zero (g ∷ taken) rest f l i = absurd (omega (arith, l))
in_first (suc n) (g ∷ taken) rest f l (inl e) = inl e
in_first (suc n) (g ∷ taken) rest f l (inr i) = inr (in_first n taken rest f (omega (arith, l)) i)

pub only_maps_take_frames : OnlyMapsTakeFrames
only_maps_take_frames m is root T serves s fits call is_call due waits f unflushed free =
    (call_does m is root serves s (sound_of_fits m.levels m.window T root serves s fits) due call is_call).1 (waits unflushed.0 unflushed.1) f free

module _ (m : Machine) (is : IsMachine m) (root : ℕ) (serves : ℕ → Bool) (s : State) (sound : IsSound m.levels m.window root serves s) where
  abbrev first : List ℕ
  first = take (m.levels - 1) s.pool

  abbrev Keeps : State → Type 0
  Keeps t = (f : ℕ) → In s.pool f → In first f ⊎ In t.pool f

  taken_first : (rest : List ℕ) → Takes s.pool rest (m.levels - 1) → (f : ℕ) → In s.pool f → In first f ⊎ In rest f
  taken_first rest takes f free = ⊎_elim
      (λ i. inl (subst (λ pool. In (take (m.levels - 1) pool) f) (sym takes.first) (in_first (m.levels - 1) takes.taken rest f takes.few i)))
      (λ i. inr i)
      (in_append takes.taken rest f (subst (λ pool. In pool f) takes.first free))

  keeps : (call : Call) → IsCall m.levels call → Keeps (step m s call).state
  keeps = step_ind m.levels m.window m.added_flags m.take_back root s sound.hierarchy (λ t items. Keeps t)
      (λ f i. inr i)
      (λ q frame given more items page may. taken_first (map_call m.levels s.paths s.pool more m.added_flags q frame given).supply
      (map_takes m.levels root s.paths s.pool more m.added_flags q frame given sound.hierarchy.tree page.at_most))
      (λ q w item change outside f i. inr i)
      (λ low high f i. let back = (clean_up m.levels s.paths low high).back in inr ((given_frames m.take_back is.gives s.pool back f).1 (in_right back s.pool f i)))

pub first_frames_are_taken : FirstFramesAreTaken
first_frames_are_taken m is root T serves s fits call is_call due none f unflushed free = ⊎_elim
    (λ i. absurd (none f i unflushed))
    (λ i. i)
    (keeps m is root serves s (sound_of_fits m.levels m.window T root serves s fits) call is_call f free)
