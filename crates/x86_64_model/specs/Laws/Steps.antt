-- Laws of the machine's steps and of lists of calls.
use Rattle.std.specs.Prelude.{◌≡◌, ◌↔◌, ◌+◌, ◌%◌, ℕ, Bool, true, false, List, [], ◌∷◌, length, take, drop, Option, Some, None, IsSome}
use Rattle.std.specs.List.{AllByRecursion, slice_get}
use Rattle.x86_64_model.specs.Position.{span, page_path}
use Rattle.x86_64_model.specs.Entry.{used, present, writable, user}
use Rattle.x86_64_model.specs.Path.{parents, begins, path_at}
use Rattle.x86_64_model.specs.PathMap.{PathMap, entry}
use Rattle.x86_64_model.specs.Memory.{Words}
use Rattle.x86_64_model.specs.Window.{begins_with, entry_at, IsValidFor}
use Rattle.x86_64_model.specs.PageWalk.{page_walk}
use Rattle.x86_64_model.specs.Translation.{translate}
use Rattle.x86_64_model.specs.Pool.{IsOwn, Fits}
use Rattle.x86_64_model.specs.Call.{Call, MapTo, IdentityMap, IsCall, Answered, parent_flags_of}
use Rattle.x86_64_model.specs.Machine.{Machine, IsMachine, State, step, state_after}
use Rattle.x86_64_model.specs.Flush.{Item, OnePage, covers, items_of, all_items}
use Rattle.x86_64_model.specs.Arrivals.{KeepsArrival, Arrives, Asks}
use Rattle.x86_64_model.specs.Refusal.{Done}

-- The words are a valid hierarchy that means the state, and the pool fits it.
abbrev pub FitsState : (m : Machine) → Words → (root : ℕ) → (serves : ℕ → Bool) → State → Type 0
FitsState m T root serves s = Fits m.levels m.window T root s.paths serves s.pool

-- Each call of a list names only 4KiB, 2MiB and 1GiB pages, and only levels that have entries of the kind it needs.
abbrev pub AllCalls : (L : ℕ) → List Call → Type 0
AllCalls L calls = AllByRecursion (IsCall L) calls

-- After one step of the machine the pool fits again, with any words that are a valid hierarchy, mean the state after the step,
-- and have the frames that were there.
abbrev pub StepKeepsFit : Type 0
StepKeepsFit = (m : Machine) → IsMachine m → (T U : Words) (root : ℕ) (serves : ℕ → Bool) (s : State) (call : Call) → IsCall m.levels call
    → FitsState m T root serves s → IsValidFor m.levels m.window U root (step m s call).state.paths → ((f : ℕ) → IsSome (T f) → IsSome (U f))
    → FitsState m U root serves (step m s call).state

-- After one step of the machine there are words that are a valid hierarchy and mean the state, and the pool fits them. In these
-- words all frames are unchanged that were neither free nor a table's.
abbrev pub StepIsHeld : Type 0
StepIsHeld = (m : Machine) → IsMachine m → (T : Words) (root : ℕ) (serves : ℕ → Bool) (s : State) (call : Call) → IsCall m.levels call
    → FitsState m T root serves s
    → (U : Words) × FitsState m U root serves (step m s call).state × ((f : ℕ) → (IsOwn m.levels root s.paths s.pool f → ⊥) → U f ≡ T f)

-- The set of free and table frames is the same before and after any list of calls.
abbrev pub RunConserves : Type 0
RunConserves = (m : Machine) → IsMachine m → (T : Words) (root : ℕ) (serves : ℕ → Bool) (s : State) (calls : List Call) → AllCalls m.levels calls
    → FitsState m T root serves s
    → (f : ℕ) → IsOwn m.levels root s.paths s.pool f ↔ IsOwn m.levels root (state_after m s calls).paths (state_after m s calls).pool f

-- After any list of calls the pool fits again, with any words that are a valid hierarchy, mean the state after the calls, and
-- have the frames that were there.
abbrev pub RunKeepsFit : Type 0
RunKeepsFit = (m : Machine) → IsMachine m → (T U : Words) (root : ℕ) (serves : ℕ → Bool) (s : State) (calls : List Call) → AllCalls m.levels calls
    → FitsState m T root serves s → IsValidFor m.levels m.window U root (state_after m s calls).paths → ((f : ℕ) → IsSome (T f) → IsSome (U f))
    → FitsState m U root serves (state_after m s calls)

-- After any list of calls there are words that are a valid hierarchy and mean the state, and the pool fits them. In these words
-- all frames are unchanged that were neither free nor a table's.
abbrev pub RunIsHeld : Type 0
RunIsHeld = (m : Machine) → IsMachine m → (T : Words) (root : ℕ) (serves : ℕ → Bool) (s : State) (calls : List Call) → AllCalls m.levels calls
    → FitsState m T root serves s
    → (U : Words) × FitsState m U root serves (state_after m s calls) × ((f : ℕ) → (IsOwn m.levels root s.paths s.pool f → ⊥) → U f ≡ T f)

-- ---- what is flushed

-- None of the items recorded for flushes covers the position, with L levels.
abbrev pub NoneCovers : (L : ℕ) → List Item → (position : ℕ) → Type 0
NoneCovers L items p = AllByRecursion (λ item. covers L item p ≡ false) items

-- Take a position (the number of an address counted without the gap) outside the recursive window, which no item of a call after
-- the first k covers. If the walk arrives in words that mean the state after the first k calls, it arrives at the end too, at the
-- same address, with no right lost.
abbrev pub FlushesSuffice : Type 0
FlushesSuffice = (m : Machine) → IsMachine m → (T V U : Words) (root : ℕ) (serves : ℕ → Bool) (s : State) (calls : List Call) → AllCalls m.levels calls
    → FitsState m T root serves s
    → (k : ℕ) → IsValidFor m.levels m.window V root (state_after m s (take k calls)).paths → IsValidFor m.levels m.window U root (state_after m s calls).paths
    → (p : ℕ) → begins_with m.window (page_path m.levels p) ≡ false → NoneCovers m.levels (all_items m (state_after m s (take k calls)) (drop k calls)) p
    → KeepsArrival (page_walk m.levels V root p) (page_walk m.levels U root p)

-- ---- maps

-- The page, the frame and the flags of a `map_to` or an `identity_map`, None for any other call.
abbrev pub mapping_asked : (L : ℕ) → Call → Option (List ℕ × (ℕ × ℕ))
mapping_asked L (MapTo level page frame given) = Some (path_at L level page, (frame, given))
mapping_asked L (IdentityMap level frame given) = Some (path_at L level frame, (frame, given))
mapping_asked L call = None

-- If the walk arrives in words that mean the state before a map call of a list, it arrives in words that mean the state after it,
-- whatever the call answers. It arrives at the same address, loses no right, and gains only rights that the parent flags grant.
abbrev pub RunMapsKeepWalks : Type 0
RunMapsKeepWalks = (m : Machine) (V U : Words) (root : ℕ) (s : State) (calls : List Call) (k more : ℕ) (call : Call) → slice_get calls k ≡ Some call → parent_flags_of call ≡ Some more
    → IsValidFor m.levels m.window V root (state_after m s (take k calls)).paths → IsValidFor m.levels m.window U root (state_after m s (take (k + 1) calls)).paths
    → (p : ℕ) → Arrives more (page_walk m.levels V root p) (page_walk m.levels U root p)

-- In words that mean the state after an accepted `map_to` or `identity_map` with PRESENT of a list, the walk arrives everywhere
-- in the page, with exactly the requested rights.
abbrev pub RunMapsArrive : Type 0
RunMapsArrive = (m : Machine) → IsMachine m → (T U : Words) (root : ℕ) (serves : ℕ → Bool) (s : State) (calls : List Call) → AllCalls m.levels calls
    → FitsState m T root serves s
    → (k level frame given : ℕ) (q : List ℕ) (call : Call) → slice_get calls k ≡ Some call → mapping_asked m.levels call ≡ Some (q, (frame, given)) → Asks m.levels level q frame given
    → (step m (state_after m s (take k calls)) call).reply ≡ Answered (Done frame) → IsValidFor m.levels m.window U root (state_after m s (take (k + 1) calls)).paths
    → (p : ℕ) → take (length q) (page_path m.levels p) ≡ q
    → page_walk m.levels U root p ≡ Some (record { address = frame + p % span level; write = writable given; user = user given })

-- ---- other pages

-- Every used entry at these paths is present.
abbrev pub UsedPresent : PathMap → List (List ℕ) → Type 0
UsedPresent M ps = AllByRecursion (λ r. used (entry M r) ≡ true → present (entry M r) ≡ true) ps

-- A call that records one page to flush changes no answer of `translate` outside this page and the recursive window, if every
-- used parent of the page was present.
abbrev pub CallsSpareOthers : Type 0
CallsSpareOthers = (m : Machine) → IsMachine m → (T : Words) (root : ℕ) (serves : ℕ → Bool) (s : State) (call : Call) → IsCall m.levels call
    → FitsState m T root serves s
    → (q : List ℕ) → items_of m.levels call (step m s call).reply ≡ OnePage q ∷ [] → UsedPresent s.paths (parents q)
    → (p : ℕ) → begins q (page_path m.levels p) ≡ false → begins_with m.window (page_path m.levels p) ≡ false
    → translate m.levels (entry_at m.window (step m s call).state.paths) p ≡ translate m.levels (entry_at m.window s.paths) p
