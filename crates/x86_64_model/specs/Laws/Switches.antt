-- Laws of a processor that caches while it switches between address spaces.
use Rattle.std.specs.Prelude.{◌≡◌, ◌≢◌, ◌⊎◌, ◌<◌, ◌==◌, ◌||◌, ◌++◌, ℕ, Bool, true, false, cond, List, [], ◌∷◌, Some}
use Rattle.x86_64_model.specs.Lists.{In}
use Rattle.x86_64_model.specs.Pool.{TakesBack}
use Rattle.x86_64_model.specs.Window.{entry_at}
use Rattle.x86_64_model.specs.Caches.{PartialWalk, MayAccess, walk_with_rights, walked_in}
use Rattle.x86_64_model.specs.Flushing.{Due, concerns}
use Rattle.x86_64_model.specs.Tags.{Tag, Of, Global, usable}
use Rattle.x86_64_model.specs.Switches.{Kernel, Space, AreHeld, Switching, AreDone, SwitchEvent, Makes, Writes, Marks, Returns, Pools, Begins, Ends, Loads, Abandons, Flushes, Changes}
use Rattle.x86_64_model.specs.MaySwitch.{AllMaySwitch, after_switches}
use Rattle.x86_64_model.specs.Laws.Caches.{WalksThere, IsStale, IsLetGo}

-- The words hold the path map of each space, and the processor starts with the root of one, which its PCID
-- holds. No call is under way, nothing is cached, and nothing due.
pub record IsStarted (k : Kernel) (s : Switching) : Type 0 where
  pub held : AreHeld k s.words s.spaces
  pub done : AreDone s
  pub space : Space
  pub there : In s.spaces space
  pub is_root : space.root ≡ s.root
  pub holds : s.holder s.pcid ≡ Some s.root
  pub none_cached : s.cache ≡ []
  pub none_due : (tag : Tag) → s.due tag ≡ []
  pub none_under_way : s.under_way ≡ []

-- A list of events leads from the start of a kernel and a processor to now: calls on spaces, writes, new
-- spaces and given up ones, loads of CR3, flushes, and what the processor caches at any moment.
pub record Switches (k : Kernel) (start : Switching) (events : List SwitchEvent)
    (now : Switching) : Type 0 where
  pub gives : TakesBack k.take_back
  pub levels : 0 < k.levels
  pub started : IsStarted k start
  pub happen : AllMaySwitch k start events
  pub ends : after_switches k start events ≡ now

-- What is due for the items that serve: those of the current PCID, and global translations.
abbrev pub due_here : Switching → List Due
due_here now = now.due (Of now.pcid) ++ now.due Global

-- At every moment, also during calls, each access in a space goes with the page walk from its root in the
-- present words, with no right more, if nothing that is due here concerns the position (the number of an
-- address counted without the gap).
abbrev pub SwitchesAreFlushed : Type 0
SwitchesAreFlushed = (k : Kernel) (start : Switching) (events : List SwitchEvent) (now : Switching)
    → Switches k start events now
    → (a : Space) → In now.spaces a → a.root ≡ now.root
    → (p : ℕ) → ((due : Due) → In (due_here now) due → concerns k.levels a.window due p ≡ false)
    → (w : PartialWalk) → MayAccess k.levels now.root now.words (usable now.pcid now.cache) p w
    → WalksThere (walk_with_rights k.levels now.words now.root p) w

-- At every moment, also during calls, each access in a space goes with the page walk from its root in the
-- present words, or to a page that may be cached still. Such a page is due here, in the frame that it had
-- when a call let it go, or all items on its path or the recursive window in which it lies are due here.
abbrev pub StaleSwitchesAreOld : Type 0
StaleSwitchesAreOld = (k : Kernel) (start : Switching) (events : List SwitchEvent) (now : Switching)
    → Switches k start events now
    → (a : Space) → In now.spaces a → a.root ≡ now.root
    → (p : ℕ) (w : PartialWalk) → MayAccess k.levels now.root now.words (usable now.pcid now.cache) p w
    → WalksThere (walk_with_rights k.levels now.words now.root p) w
    ⊎ IsStale k.levels a.window (due_here now) (entry_at a.window a.paths) w

-- The current root is always that of a space, and its words hold the space's path map.
abbrev pub CurrentIsASpace : Type 0
CurrentIsASpace = (k : Kernel) (start : Switching) (events : List SwitchEvent) (now : Switching)
    → Switches k start events now
    → AreHeld k now.words now.spaces × (a : Space) × In now.spaces a × (a.root ≡ now.root)

-- No access in a space reaches an address that lies in no page of a present entry of the space, in no page
-- that is due here, as it was, and in no page of an entry, present or not, below which all items are due
-- here, if the recursive window isn't due here. So its frame may be used for anything.
abbrev pub LetGoIsUnreachedHere : Type 0
LetGoIsUnreachedHere = (k : Kernel) (start : Switching) (events : List SwitchEvent) (now : Switching)
    → Switches k start events now
    → (a : Space) → In now.spaces a → a.root ≡ now.root
    → (address : ℕ) → IsLetGo k.levels a.window (due_here now) (entry_at a.window a.paths) address
    → (p : ℕ) (w : PartialWalk) → MayAccess k.levels now.root now.words (usable now.pcid now.cache) p w
    → (walked_in k.levels p w).address ≢ address

-- ---- several processors

-- Whether all processors see the event: what the kernel does with spaces, words and its pool, and what any
-- processor marks. A processor alone sees what it loads, flushes and caches.
abbrev pub is_seen_by_all : SwitchEvent → Bool
is_seen_by_all (Makes a call loses reaches everywhere next) = true
is_seen_by_all (Writes U) = true
is_seen_by_all (Marks next U) = true
is_seen_by_all Returns = true
is_seen_by_all (Pools pool) = true
is_seen_by_all (Begins a) = true
is_seen_by_all (Ends root) = true
is_seen_by_all (Loads root pcid keeps after) = false
is_seen_by_all (Abandons pcid) = false
is_seen_by_all (Flushes f after) = false
is_seen_by_all (Changes after) = false

-- The events that processor j sees, of a list of events with the number of the processor of each.
abbrev pub seen_by : (j : ℕ) → List (ℕ × SwitchEvent) → List SwitchEvent
seen_by j [] = []
seen_by j (e ∷ more) = cond ((e.0 == j) || is_seen_by_all e.1) (e.1 ∷ seen_by j more) (seen_by j more)

-- Two processors see the same spaces, free frames and words.
pub record SeeTheSame (a b : Switching) : Type 0 where
  pub spaces : a.spaces ≡ b.spaces
  pub pool : a.pool ≡ b.pool
  pub words : a.words ≡ b.words

-- Of several processors, each access of any one in a space goes with the page walk from its root in the
-- present words, with no right more, if the events that it sees may happen, and nothing that is due for its
-- items concerns the position. So it has to be flushed for itself, and a call takes no frame of a freed
-- table until tables are flushed on each.
abbrev pub EachIsFlushedHere : Type 0
EachIsFlushedHere = (k : Kernel) (events : List (ℕ × SwitchEvent)) (j : ℕ) (start now : Switching)
    → Switches k start (seen_by j events) now
    → (a : Space) → In now.spaces a → a.root ≡ now.root
    → (p : ℕ) → ((due : Due) → In (due_here now) due → concerns k.levels a.window due p ≡ false)
    → (w : PartialWalk) → MayAccess k.levels now.root now.words (usable now.pcid now.cache) p w
    → WalksThere (walk_with_rights k.levels now.words now.root p) w

-- Two processors that start with the same spaces, free frames and words see the same ones always.
abbrev pub AllSeeTheSame : Type 0
AllSeeTheSame = (k : Kernel) (events : List (ℕ × SwitchEvent)) (i j : ℕ) (a b : Switching) → SeeTheSame a b
    → SeeTheSame (after_switches k a (seen_by i events)) (after_switches k b (seen_by j events))
