-- Several processors that use one hierarchy: all see its calls and its words, and each has caches of its own, which it flushes
-- itself.
use Rattle.std.specs.Prelude.{◌≡◌, ℕ, ◌==◌, Bool, false, cond, List, [], ◌∷◌}
use Rattle.x86_64_model.specs.Caches.{PartialWalk, Cached, MayAccess, walk_with_rights}
use Rattle.x86_64_model.specs.Call.{Call}
use Rattle.x86_64_model.specs.Flushing as kernel
use Rattle.x86_64_model.specs.Flushing.{Due, Flush, Event, System, concerns}
use Rattle.x86_64_model.specs.Laws.Caches.{Happens, WalksThere}
use Rattle.x86_64_model.specs.Laws.Steps.{FitsState}
use Rattle.x86_64_model.specs.Lists.{In}
use Rattle.x86_64_model.specs.Machine.{Machine, State}
use Rattle.x86_64_model.specs.Memory.{Words}
use Rattle.x86_64_model.specs.PathMap.{PathMap}

-- An event with several processors: a call or a change of words for all of them, a flush or a change of caches for the one with
-- this number.
pub data SharedEvent : Type 0 where
  Makes : Call → (loses : Bool) → SharedEvent
  Writes : (paths : PathMap) → (words : Words) → SharedEvent
  Flushes : (processor : ℕ) → Flush → (after : List Cached) → SharedEvent
  Changes : (processor : ℕ) → (after : List Cached) → SharedEvent

-- The events that the processor with this number sees: calls, changes of words, and its own flushes and changes of caches.
abbrev pub events_seen : (processor : ℕ) → List SharedEvent → List Event
events_seen k [] = []
events_seen k (Makes call loses ∷ more) = kernel.Makes call loses ∷ events_seen k more
events_seen k (Writes N U ∷ more) = kernel.Writes N U ∷ events_seen k more
events_seen k (Flushes j f after ∷ more) = cond (j == k) (kernel.Flushes f after ∷ events_seen k more) (events_seen k more)
events_seen k (Changes j after ∷ more) = cond (j == k) (kernel.Changes after ∷ events_seen k more) (events_seen k more)

-- Two processors see the same state of the machine, the same path map and the same words.
pub record SystemsSeeTheSame (a b : System) : Type 0 where
  pub state : a.state ≡ b.state
  pub paths : a.paths ≡ b.paths
  pub words : a.words ≡ b.words

-- If what a processor sees may happen, each of its accesses that nothing due on it concerns goes with the page walk.
abbrev pub EachIsFlushed : Type 0
EachIsFlushed = (m : Machine) (root : ℕ) (T : Words) (serves : ℕ → Bool) (s : State) → FitsState m T root serves s
    → (events : List SharedEvent) (k : ℕ) (now : System) → Happens m root T s (events_seen k events) now
    → (p : ℕ) → ((due : Due) → In now.due due → concerns m.levels m.window due p ≡ false)
    → (w : PartialWalk) → MayAccess m.levels root now.words now.cache p w → WalksThere (walk_with_rights m.levels now.words root p) w

-- All processors see the same words, so the page walk is the same on each.
abbrev pub ProcessorsSeeTheSame : Type 0
ProcessorsSeeTheSame = (m : Machine) (root : ℕ) (T : Words) (s : State) (events : List SharedEvent) (j k : ℕ) (here there : System)
    → Happens m root T s (events_seen j events) here → Happens m root T s (events_seen k events) there → SystemsSeeTheSame here there
