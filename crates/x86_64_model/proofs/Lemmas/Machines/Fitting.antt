-- One step keeps a pool fitting the words, and so does a list of calls.
use Rattle.std.proofs.Common.{◌≡◌, ◌⊎◌, inl, inr, ⊎_elim, ℕ, Bool, true, List, [], ◌∷◌, Some, None, Option, IsSome, refl, sym, ap, ◌∙◌, subst, eq-eqb, eqb-true}
use Rattle.std.proofs.lemmas.Option.{same_Some}
use Rattle.x86_64_model.specs.Entry.{IsParentFlags, address}
use Rattle.x86_64_model.specs.Layout.{Layout}
use Rattle.x86_64_model.specs.Memory.{Memory, Words}
use Rattle.x86_64_model.specs.Hierarchy.{◌laid_in◌, Hierarchy, PoolFits, MayCleanUp, SupplyFits}
use Rattle.x86_64_model.specs.PathMap.{table_at}
use Rattle.x86_64_model.specs.Window.{Window, outside_window, IsValidFor}
use Rattle.x86_64_model.specs.Validity.{IsValid}
use Rattle.x86_64_model.specs.Lists.{In}
use Rattle.x86_64_model.specs.Pool.{IsOwn, TakesBack, Fits}
use Rattle.x86_64_model.specs.Call.{IsCall, Call}
use Rattle.x86_64_model.specs.Machine.{State, step, state_after}
use Rattle.x86_64_model.proofs.Lemmas.Maps.Frames.{Conserves, conserves_nothing, conserves_then}
use Rattle.x86_64_model.proofs.Lemmas.Hierarchies.Trees.{hierarchy_of_valid}
use Rattle.x86_64_model.proofs.Lemmas.Hierarchies.Unset.{is_some-unset, word_unset}
use Rattle.x86_64_model.proofs.Lemmas.Machines.Effects.{machine}
pub use Rattle.x86_64_model.specs.Laws.Steps.{AllCalls}
use Rattle.x86_64_model.proofs.Lemmas.Machines.States.{Aside, IsSound, step_sound, step_conserves, run_sound}

-- ---- and words

-- whatever a pool serves, its frames are as the calls of a mapper want them
pub ready_of_fits : (l : Layout) (m : Memory) (serves : ℕ → Bool) (pool : List ℕ) → PoolFits (l laid_in m) serves pool → SupplyFits (l laid_in m) pool
ready_of_fits l m serves pool fits = record {
  valid = fits.valid;
  each_once = fits.each_once;
  in_memory = fits.in_memory;
  are_frames = fits.are_frames;
  not_zero = fits.not_zero;
  no_table = fits.no_table;
  serves_pool = λ f i. refl;
  serves_tables = λ i q f t. refl;
}

-- and as a clean up wants them
pub may_clean_up : {Lent : Type 0} (h : Hierarchy Lent) (serves : ℕ → Bool) (pool : List ℕ) → PoolFits h serves pool → MayCleanUp h serves pool
may_clean_up h serves pool fits = record {
  valid = fits.valid;
  serves_tables = fits.serves_tables;
  none_held = λ i q f table held. fits.no_table f held (i ∷ q, table);
}

-- what follows for the state from valid words and a pool that fits
pub sound_of_fits : (L : ℕ) (window : Option Window) (T : Words) (root : ℕ) (serves : ℕ → Bool) (s : State) → Fits L window T root s.paths serves s.pool → IsSound L window root serves s
sound_of_fits L window T root serves s fits = record {
  hierarchy = hierarchy_of_valid L (outside_window window root T) root s.paths fits.valid.valid;
  aside = by window fits.valid.valid;
  one_each = record { own_frames = fits.valid.valid.own_frames; each_once = fits.each_once; no_table = fits.no_table };
  frames = λ f i. record { aligned = eqb-true (address f) f (fits.are_frames f i); not_zero = λ z. fits.not_zero (subst (In s.pool) z i) };
  served = served;
}
  where
    by : (v : Option Window) → IsValid L (outside_window v root T) root s.paths → Aside v s.paths
    by None a = tt
    by (Some w) a = a.holds.entries [] w.index ∙ word_unset T root w.index

    table : (f : ℕ) (q : List ℕ) → table_at L root s.paths q ≡ Some f → (f ≡ root) ⊎ (serves f ≡ true)
    table f [] e = inl (sym (same_Some root f e))
    table f (i ∷ q) e = inr (fits.serves_tables i q f e)

    served : (f : ℕ) → IsOwn L root s.paths s.pool f → (f ≡ root) ⊎ (serves f ≡ true)
    served f (inl i) = inr (fits.serves_pool f i)
    served f (inr t) = table f t.0 t.1

-- and the other way round, with any words that hold the state and have the pool's frames
pub fits_of_sound : (L : ℕ) (window : Option Window) (U : Words) (root : ℕ) (serves : ℕ → Bool) (s : State) → IsSound L window root serves s → IsValidFor L window U root s.paths
    → ((f : ℕ) → In s.pool f → IsSome (U f)) → Fits L window U root s.paths serves s.pool
fits_of_sound L window U root serves s sound valid there = record {
  valid = valid;
  each_once = sound.one_each.each_once;
  in_memory = there;
  are_frames = λ f i. eq-eqb (address f) f (sound.frames f i).aligned;
  not_zero = λ i. (sound.frames 0 i).not_zero refl;
  no_table = sound.one_each.no_table;
  serves_pool = λ f i. ⊎_elim (λ e. absurd (sound.one_each.no_table f i ([], ap Some (sym e)))) (λ h. h) (sound.served f (inl i));
  serves_tables = λ i q f t. ⊎_elim (λ e. let x : i ∷ q ≡ [] = sound.one_each.own_frames (i ∷ q) [] f t (ap Some (sym e)) in cc) (λ h. h) (sound.served f (inr (i ∷ q, t)));
}

pub own_there : (L : ℕ) (window : Option Window) (T : Words) (root : ℕ) (serves : ℕ → Bool) (s : State) → Fits L window T root s.paths serves s.pool → (f : ℕ) → IsOwn L root s.paths s.pool f → IsSome (T f)
own_there L window T root serves s fits f (inl i) = fits.in_memory f i
own_there L window T root serves s fits f (inr t) = by window fits.valid
  where
    by : (v : Option Window) → IsValidFor L v T root s.paths → IsSome (T f)
    by None valid = valid.valid.holds.in_memory t.0 f t.1
    by (Some w) valid = is_some-unset T root w.index 0 f (valid.valid.holds.in_memory t.0 f t.1)

-- one step keeps the state fit: whatever valid words hold the path map afterwards, if they have the frames that were there
pub step_fits : (L : ℕ) (window : Option Window) (T U : Words) (root : ℕ) (serves : ℕ → Bool) (added : ℕ) → IsParentFlags added → (take_back : List ℕ → ℕ → List ℕ) → TakesBack take_back
    → (s : State) (call : Call) → IsCall L call → Fits L window T root s.paths serves s.pool
    → IsValidFor L window U root (step (machine L window added take_back) s call).state.paths → ((f : ℕ) → IsSome (T f) → IsSome (U f))
    → Fits L window U root (step (machine L window added take_back) s call).state.paths serves (step (machine L window added take_back) s call).state.pool
step_fits L window T U root serves added adds take_back gives s call is fits valid kept =
    let sound = sound_of_fits L window T root serves s fits in
    fits_of_sound L window U root serves _ (step_sound L window root serves s sound added adds take_back gives call is) valid
    (λ f i. kept f (own_there L window T root serves s fits f (((step_conserves L window root serves s sound added adds take_back gives call is).same_set f).1 (inl i))))

pub run_conserves : (L : ℕ) (window : Option Window) (root : ℕ) (serves : ℕ → Bool) (added : ℕ) → IsParentFlags added → (take_back : List ℕ → ℕ → List ℕ) → TakesBack take_back
    → (calls : List Call) → AllCalls L calls → (s : State) → IsSound L window root serves s
    → Conserves L root s.paths s.pool (state_after (machine L window added take_back) s calls).paths (state_after (machine L window added take_back) s calls).pool
run_conserves L window root serves added adds take_back gives [] is s sound = conserves_nothing L root s.paths s.pool
run_conserves L window root serves added adds take_back gives (call ∷ calls) is s sound = conserves_then L root s.paths s.pool _ _ _ _
    (step_conserves L window root serves s sound added adds take_back gives call is.0)
    (run_conserves L window root serves added adds take_back gives calls is.1 _ (step_sound L window root serves s sound added adds take_back gives call is.0))

-- after any list of calls the set of the frames of the pool and of the tables is unchanged, each has one use, and the pool fits
-- again
pub run_fits : (L : ℕ) (window : Option Window) (T U : Words) (root : ℕ) (serves : ℕ → Bool) (added : ℕ) → IsParentFlags added → (take_back : List ℕ → ℕ → List ℕ) → TakesBack take_back
    → (s : State) (calls : List Call) → AllCalls L calls → Fits L window T root s.paths serves s.pool
    → IsValidFor L window U root (state_after (machine L window added take_back) s calls).paths → ((f : ℕ) → IsSome (T f) → IsSome (U f))
    → Fits L window U root (state_after (machine L window added take_back) s calls).paths serves (state_after (machine L window added take_back) s calls).pool
run_fits L window T U root serves added adds take_back gives s calls is fits valid kept =
    let sound = sound_of_fits L window T root serves s fits in
    fits_of_sound L window U root serves _ (run_sound L window root serves added adds take_back gives calls is s sound) valid
    (λ f i. kept f (own_there L window T root serves s fits f (((run_conserves L window root serves added adds take_back gives calls is s sound).same_set f).1 (inl i))))
