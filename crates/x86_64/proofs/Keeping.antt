-- What a list of calls keeps is kept by each call, and by one call after another.
use Rattle.std.proofs.Common.{◌≡◌, ℕ, Bool, List, refl, sym, ◌∙◌, subst}
use Rattle.x86_64_model.specs.Entry.{IsParentFlags}
use Rattle.x86_64_model.specs.Memory.{Memory}
use Rattle.x86_64_model.specs.Layout.{Layout}
use Rattle.x86_64_model.specs.Pool.{TakesBack}
use Rattle.x86_64_model.specs.Call.{Call, IsCall}
use Rattle.x86_64_model.specs.Machine.{State, step}
use Rattle.x86_64_model.specs.Hierarchy.{◌laid_in◌, Hierarchy, KeepsOthers, Owns, PoolFits, SupplyFits, paths, words}
use Rattle.x86_64_model.specs.Store.{Store, StoreFits, Keeps, KeepsPool}
use Rattle.x86_64_model.proofs.Lemmas.Maps.Frames.{Conserves}
use Rattle.x86_64_model.proofs.Lemmas.Machines.States.{IsSound, step_sound, step_conserves}
use Rattle.x86_64_model.proofs.Lemmas.Machines.Fitting.{sound_of_fits, fits_of_sound}
use Rattle.x86_64.specs.Runs.{machine_of, state_in}

pub keeps_nothing : (l : Layout) (serves : ℕ → Bool) (m : Memory) (pool : List ℕ) → PoolFits (l laid_in m) serves pool → KeepsPool l serves m pool m pool
keeps_nothing l serves m pool fits = record { fits = fits; conserved = λ f. (λ own. own, λ own. own); others = λ k o. refl }

pub kept_none : {Lent : Type 0} (h : Hierarchy Lent) (store : Store) → StoreFits h store → Keeps h store h store
kept_none h store fits = record { keeps = keeps_nothing h.layout store.serves h.memory store.frames fits; serves = refl; layout = refl; lent = refl }

pub keeps_then : (l : Layout) (serves : ℕ → Bool) (m n o : Memory) (pool rest last : List ℕ) → KeepsPool l serves m pool n rest → KeepsPool l serves n rest o last → KeepsPool l serves m pool o last
keeps_then l serves m n o pool rest last one next = record {
  fits = next.fits;
  conserved = λ f. (λ own. (next.conserved f).0 ((one.conserved f).0 own), λ own. (one.conserved f).1 ((next.conserved f).1 own));
  others = λ k none. next.others k (λ f own. none f ((one.conserved f).1 own)) ∙ one.others k none;
}

-- a step of the machine, if the words mean the state after it and are as a mapper leaves them
pub keeps_step : (l : Layout) → IsParentFlags l.added_flags → (take_back : List ℕ → ℕ → List ℕ) → TakesBack take_back → (serves : ℕ → Bool) (m : Memory) (pool : List ℕ) → PoolFits (l laid_in m) serves pool
    → (call : Call) → IsCall l.levels call → (n : Memory) (rest : List ℕ) → state_in l n rest ≡ (step (machine_of l take_back) (state_in l m pool) call).state
    → SupplyFits (l laid_in n) rest → KeepsOthers (Owns (l laid_in m) pool) (l laid_in m) (l laid_in n) → KeepsPool l serves m pool n rest
keeps_step l adds take_back gives serves m pool fits call is n rest means ready others =
    let sound = sound_of_fits l.levels l.window (words (l laid_in m)) l.root serves (state_in l m pool) fits in
    let after = step_sound l.levels l.window l.root serves (state_in l m pool) sound l.added_flags adds take_back gives call is in
    let same = step_conserves l.levels l.window l.root serves (state_in l m pool) sound l.added_flags adds take_back gives call is in
    record {
      fits = fits_of_sound l.levels l.window (words (l laid_in n)) l.root serves (state_in l n rest) (subst (IsSound l.levels l.window l.root serves) (sym means) after) ready.valid ready.in_memory;
      conserved = (subst (λ (s : State). Conserves l.levels l.root (paths (l laid_in m)) pool s.paths s.pool) (sym means) same).same_set;
      others = others;
    }
