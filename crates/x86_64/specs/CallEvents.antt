-- What `run_call` ensures of a call lets it happen between a kernel and a processor that caches.
use Rattle.std.specs.Prelude.{◌≡◌, ℕ, Bool, List}
use Rattle.x86_64_model.specs.Call.{Call}
use Rattle.x86_64_model.specs.Layout.{Layout}
use Rattle.x86_64_model.specs.Machine.{step}
use Rattle.x86_64_model.specs.Hierarchy.{◌laid_in◌, machine_of, state_in, PoolFits, words}
use Rattle.x86_64_model.specs.Memory.{Memory}
use Rattle.x86_64_model.specs.Laws.Caches.{IsAfterCall}
use Rattle.x86_64_model.specs.Flushing.{freed_by}
use Rattle.x86_64.specs.FreeFrames.{KeepsFree}

-- A call led from the memory m and a pool to the memory n and the rest of the pool, by the machine's step. Free frames are kept,
-- and the rest fits the hierarchy. Then the words are as an event of the call leaves them.
abbrev pub RunCallsAreEvents : Type 0
RunCallsAreEvents = (l : Layout) (take_back : List ℕ → ℕ → List ℕ) (serves : ℕ → Bool) (m n : Memory) (pool rest : List ℕ) (call : Call)
    → (step (machine_of l take_back) (state_in l m pool) call).state ≡ state_in l n rest
    → KeepsFree l m pool (freed_by l.levels (state_in l m pool) call) n rest → PoolFits (l laid_in n) serves rest
    → IsAfterCall (machine_of l take_back) l.root (words (l laid_in m)) (words (l laid_in n)) (state_in l m pool) call
