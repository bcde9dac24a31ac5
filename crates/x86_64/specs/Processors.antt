-- A processor that caches items of a hierarchy, between the calls and flushes of a kernel.
use Rattle.std.specs.Prelude.{◌≡◌, ◌<◌, ℕ, Bool, true, false, cond, List, [], ◌++◌, not, filter, Option, Some, None, option_map, unwrap_or}
use Rattle.x86_64_model.specs.Caches.{PartialWalk, Cached, MayAccess, walk_with_rights}
use Rattle.x86_64_model.specs.Call.{Call, IsCall}
use Rattle.x86_64_model.specs.Flushing as kernel
use Rattle.x86_64_model.specs.Entry.{used}
use Rattle.x86_64_model.specs.Flushing.{Due, PageDue, Event, System, StayFree, LosesNothing, due_after, mapped_by, survives, freed_by}
use Rattle.x86_64_model.specs.Layout.{Layout}
use Rattle.x86_64_model.specs.Laws.Caches.{CachesInTurn, Happens, WalksThere}
use Rattle.x86_64_model.specs.Laws.Steps.{FitsState}
use Rattle.x86_64_model.specs.Lists.{In}
use Rattle.x86_64_model.specs.Machine.{Machine, IsMachine, State, step}
use Rattle.x86_64_model.specs.Hierarchy.{◌laid_in◌, machine_of, state_in, PoolFits, paths, words}
use Rattle.x86_64_model.specs.Memory.{Memory, Words}
use Rattle.x86_64_model.specs.Path.{is_below}
use Rattle.x86_64_model.specs.PathMap.{entry}
use Rattle.x86_64_model.specs.Window.{Window}
use Rattle.x86_64.specs.Calls.{page_of_call}
use Rattle.x86_64.specs.FlushesDue.{TellsFlush, executed, settles_any}
use Rattle.x86_64.specs.FreeFrames.{KeepsFree}
use Rattle.x86_64.specs.Replies.{Reply}
use Rattle.x86_64.specs.Runs.{step_by}
use Rattle.x86_64.specs.declared.flushing.Flush.{Flush}

-- The model's system between two calls on a hierarchy in a memory, with its free frames, what the processor has cached, and what
-- is due.
abbrev pub system_in : Layout → Memory → (pool : List ℕ) → List Cached → List Due → System
system_in l m pool cached due = record { state = state_in l m pool; paths = paths (l laid_in m); words = words (l laid_in m); cache = cached; due = due }

-- The memory, the pool, the items and what is due arise from empty caches by events that may happen: calls, exchanges, flushes,
-- changes of the caches.
pub record IsReachable (l : Layout) (take_back : List ℕ → ℕ → List ℕ) (serves : ℕ → Bool) (m : Memory) (pool : List ℕ) (cached : List Cached) (due : List Due) : Type 0 where
  pub start : State
  pub tables : Words
  pub fits : FitsState (machine_of l take_back) tables l.root serves start
  pub events : List Event
  pub happens : Happens (machine_of l take_back) l.root tables start events (system_in l m pool cached due)

-- Each access goes to the page where the page walk in the present words goes, with no right more.
abbrev pub AccessesGo : Layout → Memory → List Cached → Type 0
AccessesGo l m cached = (p : ℕ) (w : PartialWalk) → MayAccess l.levels l.root (words (l laid_in m)) cached p w → WalksThere (walk_with_rights l.levels (words (l laid_in m)) l.root p) w

-- The processor drops and makes items, one time after another, while the words are these.
abbrev pub CachesOften : (L root : ℕ) → Words → (before after : List Cached) → Type 0
CachesOften L root T before after = (between : List (List Cached)) × CachesInTurn L root T before between after

-- Each item after a flush was there before, and survives it. Without a flush the items stay.
abbrev pub LeftBy : (L : ℕ) → Option kernel.Flush → (before after : List Cached) → Type 0
LeftBy L None before after = before ≡ after
LeftBy L (Some f) before after = (c : Cached) → In after c → In before c × (survives L f c ≡ true)

-- No used entry loses anything by the machine's step for a call.
abbrev pub NoneLoses : Machine → State → Call → Type 0
NoneLoses m s call = (q : List ℕ) → used (entry s.paths q) ≡ true → LosesNothing (entry s.paths q) (entry (step m s call).state.paths q)

-- ---- laws

-- A hierarchy with a pool that fits it arises with empty caches.
abbrev pub ArisesFirst : Type 0
ArisesFirst = (l : Layout) (take_back : List ℕ → ℕ → List ℕ) (serves : ℕ → Bool) (m : Memory) (pool : List ℕ) → IsMachine (machine_of l take_back) → 0 < l.levels
    → PoolFits (l laid_in m) serves pool → IsReachable l take_back serves m pool [] []

-- The processor may drop and make items at any moment between two calls.
abbrev pub ArisesByCaching : Type 0
ArisesByCaching = (l : Layout) (take_back : List ℕ → ℕ → List ℕ) (serves : ℕ → Bool) (m : Memory) (pool : List ℕ) (due : List Due) (before after : List Cached)
    → IsReachable l take_back serves m pool before due → CachesOften l.levels l.root (words (l laid_in m)) before after → IsReachable l take_back serves m pool after due

-- A call as `run_call` ensures it makes due what the model's `flush_after` returns, or nothing if no used entry loses anything.
-- It takes no frame of a freed table while tables are due, and no map of a smaller page may begin where a larger one is due.
abbrev pub ArisesByCalls : Type 0
ArisesByCalls = (l : Layout) (take_back : List ℕ → ℕ → List ℕ) (serves : ℕ → Bool) (m n : Memory) (pool rest : List ℕ) (cached : List Cached) (due : List Due) (call : Call) (loses : Bool)
    → let machine = machine_of l take_back in
    IsReachable l take_back serves m pool cached due → IsCall l.levels call → StayFree due pool rest
    → ((q r : List ℕ) (frame : ℕ) → In due (PageDue q frame) → mapped_by l.levels call ≡ Some r → is_below q r ≡ false) → (loses ≡ false → NoneLoses machine (state_in l m pool) call) → PoolFits (l laid_in m) serves pool
    → (step machine (state_in l m pool) call).state ≡ state_in l n rest → KeepsFree l m pool (freed_by l.levels (state_in l m pool) call) n rest → PoolFits (l laid_in n) serves rest
    → IsReachable l take_back serves n rest cached (cond loses (due_after machine (state_in l m pool) call) [] ++ due)

-- A flush leaves due what it doesn't settle.
abbrev pub ArisesByFlushes : Type 0
ArisesByFlushes = (l : Layout) (take_back : List ℕ → ℕ → List ℕ) (serves : ℕ → Bool) (m : Memory) (pool : List ℕ) (due : List Due) (f : Option kernel.Flush) (before after : List Cached)
    → IsReachable l take_back serves m pool before due → LeftBy l.levels f before after → IsReachable l take_back serves m pool after (filter (λ d. not (settles_any l.levels f d)) due)

-- A call as `run_call` ensures it leaves nothing due if the flush follows that `flush_after` returns, or `flush_after_change` if
-- the caller may know that no used entry loses anything, whatever the processor caches before the call and between the two.
abbrev pub ArisesByFlushedCalls : Type 0
ArisesByFlushedCalls = (l : Layout) (take_back : List ℕ → ℕ → List ℕ) (serves : ℕ → Bool) (m n : Memory) (pool rest : List ℕ) (call : Call) (reply : Reply) (loses : Bool)
    → let machine = machine_of l take_back in
    IsCall l.levels call → PoolFits (l laid_in m) serves pool → step_by machine (state_in l m pool) call ≡ record { state = state_in l n rest; reply = Some reply }
    → KeepsFree l m pool (freed_by l.levels (state_in l m pool) call) n rest → PoolFits (l laid_in n) serves rest
    → (loses ≡ false → NoneLoses machine (state_in l m pool) call)
    → (flush : Flush) → TellsFlush l.levels call reply (option_map (λ (w : Window). w.index) l.window) loses flush
    → (before first second after : List Cached) → IsReachable l take_back serves m pool before [] → CachesOften l.levels l.root (words (l laid_in m)) before first
    → CachesOften l.levels l.root (words (l laid_in n)) first second → LeftBy l.levels (executed flush (unwrap_or (page_of_call l.levels call) 0)) second after
    → IsReachable l take_back serves n rest after []

-- If nothing is due, each access goes with the page walk.
abbrev pub FlushedAccessesGo : Type 0
FlushedAccessesGo = (l : Layout) (take_back : List ℕ → ℕ → List ℕ) (serves : ℕ → Bool) (m : Memory) (pool : List ℕ) (cached : List Cached)
    → IsReachable l take_back serves m pool cached [] → AccessesGo l m cached
