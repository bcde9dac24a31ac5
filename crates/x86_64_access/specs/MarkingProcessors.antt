-- A processor that sets ACCESSED and DIRTY, and caches, while a kernel makes calls and flushes: what has to be flushed suffices.
use Rattle.std.specs.Prelude.{◌≡◌, ◌≢◌, ◌⊎◌, ◌<◌, ℕ, Bool, false, List, [], ◌∷◌, Some, IsSome}
use Rattle.x86_64_model.specs.Arrivals.{KeepsArrival}
use Rattle.x86_64_model.specs.Caches.{PartialWalk, MayAccess, MayRead, walk_with_rights, walked_in}
use Rattle.x86_64_model.specs.Flushing.{Due, Event, IsDone, IsEmptied, MayHappen, System, after_event, concerns, fresh}
use Rattle.x86_64_model.specs.Validity.{paths_of}
use Rattle.x86_64_model.specs.Laws.Caches.{IsLetGo, IsStale, WalksThere}
use Rattle.x86_64_model.specs.Laws.Steps.{FitsState}
use Rattle.x86_64_model.specs.Lists.{In}
use Rattle.x86_64_model.specs.Machine.{IsMachine, Machine, State}
use Rattle.x86_64_model.specs.Memory.{Words}
use Rattle.x86_64_model.specs.PageWalk.{page_walk}
use Rattle.x86_64_model.specs.PathMap.{HasUsedAlone, PathMap, entry}
use Rattle.x86_64_model.specs.Pool.{IsTable}
use Rattle.x86_64_model.specs.Window.{entry_at, outside_window}
use Rattle.x86_64_access.specs.Marks.{GetsMarks, OnlyMarks, window_now}

-- ---- a kernel and a processor

-- An event of a system whose processor marks: marks, at any moment and also during a call, by which present words get ACCESSED,
-- DIRTY or both; or a call, a write, an exchange, a flush or a change of the caches.
pub data MarkingEvent : Type 0 where
  Marks : (called : PathMap) → (words : Words) → MarkingEvent
  Other : Event → MarkingEvent

-- The machine whose self-entry, if there is a recursive index, is the word that the root has at this index now, with the marks that
-- it got.
abbrev pub machine_in : Words → (root : ℕ) → Machine → Machine
machine_in T root m = record { levels = m.levels; window = window_now T root m.window; added_flags = m.added_flags; take_back = m.take_back }

-- The path map that the words hold below the root, with the root's word at the recursive index left out.
abbrev pub paths_held : Machine → (root : ℕ) → Words → PathMap
paths_held m root T = paths_of m.levels (outside_window m.window root T) root

-- The system after an event. After marks, memory has the words with the marks and the path map that they hold, and the calls so far
-- lead to the path map `called`.
abbrev pub after_marking : Machine → (root : ℕ) → System → MarkingEvent → System
after_marking m root s (Marks called U) = record { state = record { paths = called; pool = s.state.pool }; paths = paths_held m root U; words = U; cache = s.cache; due = s.due }
after_marking m root s (Other e) = after_event (machine_in s.words root m) s e

-- Marks may lead from the words of a system to U, and let its calls lead to the path map `called`, which is as before but for
-- marks. Which marks last after the call under way is left open: a mark is lost if the call read the word before and writes it
-- later.
pub record MayMark (s : System) (called : PathMap) (U : Words) : Type 0 where
  pub words : OnlyMarks s.words U
  pub paths : (q : List ℕ) → GetsMarks (entry s.state.paths q) (entry called q)
  pub used_alone : HasUsedAlone called

-- An event may happen in a system whose processor marks: marks of present words, or an event that may happen with the self-entry
-- that the root has now.
abbrev pub MarkingMayHappen : Machine → (root : ℕ) → System → MarkingEvent → Type 0
MarkingMayHappen m root s (Marks called U) = MayMark s called U
MarkingMayHappen m root s (Other e) = MayHappen (machine_in s.words root m) root s e

-- Each event of a list may happen when it comes, in order.
abbrev pub AllMarkingMayHappen : Machine → (root : ℕ) → System → List MarkingEvent → Type 0
AllMarkingMayHappen m root s [] = Unit {0}
AllMarkingMayHappen m root s (e ∷ es) = MarkingMayHappen m root s e × AllMarkingMayHappen m root (after_marking m root s e) es

-- The system after all events of a list, in order.
abbrev pub after_all_marking : Machine → (root : ℕ) → System → List MarkingEvent → System
after_all_marking m root s [] = s
after_all_marking m root s (e ∷ es) = after_all_marking m root (after_marking m root s e) es

-- A list of events that may happen, marks among them, leads to the system `now`, from empty caches on.
pub record IsReachedWithMarks (m : Machine) (root : ℕ) (T : Words) (s : State) (events : List MarkingEvent) (now : System) : Type 0 where
  pub machine : IsMachine m
  pub levels : 0 < m.levels
  pub happen : AllMarkingMayHappen m root (fresh s T) events
  pub ends : after_all_marking m root (fresh s T) events ≡ now

-- ---- laws

-- Flushes are enough at this moment. An access at a position (the number of an address counted without the non-canonical gap) that
-- nothing due concerns arrives where the page walk in the present words does, with no right less; any other goes there too, or to a
-- page for which a flush is due. No access reaches an address that no present or due page contains, and the processor reads only
-- tables of the hierarchy and, until a clean up is flushed, words 0 of freed frames.
pub record IsCovered (m : Machine) (root : ℕ) (now : System) : Type 0 where
  pub goes : (p : ℕ) → ((due : Due) → In now.due due → concerns m.levels m.window due p ≡ false)
      → (w : PartialWalk) → MayAccess m.levels root now.words now.cache p w → WalksThere (walk_with_rights m.levels now.words root p) w
  pub arrives : (p : ℕ) → ((due : Due) → In now.due due → concerns m.levels m.window due p ≡ false)
      → (w : PartialWalk) → MayAccess m.levels root now.words now.cache p w → KeepsArrival (Some (walked_in m.levels p w)) (page_walk m.levels now.words root p)
  pub stale : (p : ℕ) (w : PartialWalk) → MayAccess m.levels root now.words now.cache p w → let window = window_now now.words root m.window in
      WalksThere (walk_with_rights m.levels now.words root p) w ⊎ IsStale m.levels window now.due (entry_at window now.paths) w
  pub let_go : (address : ℕ) → (let window = window_now now.words root m.window in IsLetGo m.levels window now.due (entry_at window now.paths) address)
      → (p : ℕ) (w : PartialWalk) → MayAccess m.levels root now.words now.cache p w → (walked_in m.levels p w).address ≢ address
  pub reads : (t : PartialWalk) → MayRead root now.cache t
      → (IsTable m.levels root now.paths t.frame × IsSome (now.words t.frame)) ⊎ IsEmptied now.due now.state.pool now.words t.frame

-- What has to be flushed after each call is enough for a processor that sets ACCESSED and DIRTY, at every moment, also during
-- calls.
abbrev pub FlushesAreEnoughWithMarks : Type 0
FlushesAreEnoughWithMarks = (m : Machine) (root : ℕ) (T : Words) (serves : ℕ → Bool) (s : State) → FitsState m T root serves s
    → (events : List MarkingEvent) (now : System) → IsReachedWithMarks m root T s events now → IsCovered m root now

-- If all calls are done, any marks of present words may happen, such as those of an access, and after them all calls are done.
abbrev pub MarksMayHappen : Type 0
MarksMayHappen = (m : Machine) (root : ℕ) (T : Words) (serves : ℕ → Bool) (s : State) → FitsState m T root serves s
    → (events : List MarkingEvent) (now : System) → IsReachedWithMarks m root T s events now → IsDone now → (U : Words) → OnlyMarks now.words U
    → let marks = Marks (paths_held m root U) U in MarkingMayHappen m root now marks × IsDone (after_marking m root now marks)
