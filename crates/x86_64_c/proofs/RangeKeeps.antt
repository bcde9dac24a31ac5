-- What lists of calls keep: a pool that fitted still fits.
use Rattle.std.proofs.Common.{zero, suc, ◌≡◌, ◌+◌, ℕ, Bool, List, map, subst}
use Rattle.std.specs.List.{range_with_len}
use Rattle.x86_64_model.specs.Call.{Call, IsCall}
use Rattle.x86_64_model.specs.Entry.{IsParentFlags}
use Rattle.x86_64_model.specs.Layout.{Layout}
use Rattle.x86_64_model.specs.Machine.{State, state_after}
use Rattle.x86_64_model.specs.Hierarchy.{◌laid_in◌, KeepsOthers, Owns, PoolFits, SupplyFits, machine_of, paths, state_in, words}
use Rattle.x86_64_model.specs.Memory.{Memory}
use Rattle.x86_64_model.specs.Store.{KeepsPool, put_first}
use Rattle.x86_64_model.proofs.Lemmas.Machines.Fitting.{AllCalls, sound_of_fits, fits_of_sound, run_conserves}
use Rattle.x86_64_model.proofs.Lemmas.Machines.States.{IsSound, run_sound}
use Rattle.x86_64_model.proofs.Lemmas.Maps.Frames.{Conserves}
use Rattle.x86_64_c.proofs.EntryChanges.{gives}

-- a list of calls, if the words mean the state after it and are as a mapper leaves them
pub keeps_calls : (l : Layout) → IsParentFlags l.added_flags → (serves : ℕ → Bool) (m : Memory) (pool : List ℕ) → PoolFits (l laid_in m) serves pool
    → (calls : List Call) → AllCalls l.levels calls → (n : Memory) (rest : List ℕ) → state_after (machine_of l put_first) (state_in l m pool) calls ≡ state_in l n rest
    → SupplyFits (l laid_in n) rest → KeepsOthers (Owns (l laid_in m) pool) (l laid_in m) (l laid_in n) → KeepsPool l serves m pool n rest
keeps_calls l adds serves m pool fits calls are n rest means ready others =
    let sound = sound_of_fits l.levels l.window (words (l laid_in m)) l.root serves (state_in l m pool) fits in
    let after = run_sound l.levels l.window l.root serves l.added_flags adds put_first gives calls are (state_in l m pool) sound in
    let same = run_conserves l.levels l.window l.root serves l.added_flags adds put_first gives calls are (state_in l m pool) sound in
    record {
      fits = fits_of_sound l.levels l.window (words (l laid_in n)) l.root serves (state_in l n rest) (subst (IsSound l.levels l.window l.root serves) means after) ready.valid ready.in_memory;
      conserved = (subst (λ (s : State). Conserves l.levels l.root (paths (l laid_in m)) pool s.paths s.pool) means same).same_set;
      others = others;
    }

-- the calls on the pages of a range are calls if each is
pub are_calls : (L : ℕ) (call : ℕ → Call) → ((k : ℕ) → IsCall L (call k)) → (a n : ℕ) → AllCalls L (map call (range_with_len a n))
are_calls L call each a zero = tt
are_calls L call each a (suc n) = (each a, are_calls L call each (a + 1) n)
