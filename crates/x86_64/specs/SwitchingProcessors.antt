-- A processor that switches between address spaces of a memory, caches what it finds and marks it, between the calls and flushes
-- of a kernel.
use Rattle.std.specs.Prelude.{◌≡◌, ◌≢◌, ◌<◌, ◌++◌, ℕ, Bool, true, false, cond, List, [], ◌∷◌, map, Some, option_map, unwrap_or}
use Rattle.x86_64_model.specs.Caches.{PartialWalk, MayAccess, walk_with_rights}
use Rattle.x86_64_model.specs.Call.{Call, IsCall}
use Rattle.x86_64_model.specs.Entry.{IsParentFlags}
use Rattle.x86_64_model.specs.Flushing.{Due, PageDue, StayFree, due_after, mapped_by, freed_by}
use Rattle.x86_64_model.specs.Laws.Caches.{WalksThere}
use Rattle.x86_64_model.specs.Laws.Spaces.{KeepsRootEntries}
use Rattle.x86_64_model.specs.Laws.SwitchedSpaces.{between, started_in, AllShare, MaySwitchIn}
use Rattle.x86_64_model.specs.Laws.Switches.{Switches, due_here}
use Rattle.x86_64_model.specs.Layout.{Layout}
use Rattle.x86_64_model.specs.Lists.{In}
use Rattle.x86_64_model.specs.Hierarchy.{machine_of, state_in}
use Rattle.x86_64_model.specs.MaySwitch.{AllMaySwitch, after_switches}
use Rattle.x86_64_model.specs.Memory.{Memory, Places, IsMapping, words_of}
use Rattle.x86_64_model.specs.Path.{is_below}
use Rattle.x86_64_model.specs.Pool.{TakesBack}
use Rattle.x86_64_model.specs.Spaces.{ArePaired, Avoids, IsSharing}
use Rattle.x86_64_model.specs.Store.{KeepsPool}
use Rattle.x86_64_model.specs.Switches.{Kernel, Switching, SwitchEvent, Abandons, Flushes, is_concerned, is_held}
use Rattle.x86_64_model.specs.Tags.{Tag, Tagged, Of, TaggedFlush, Invlpg, InvpcidAll, is_left, usable}
use Rattle.x86_64_model.specs.Window.{Window}
use Rattle.x86_64.specs.Calls.{page_of_call}
use Rattle.x86_64.specs.FlushesDue.{TellsFlush, InPages, flush_for}
use Rattle.x86_64.specs.FreeFrames.{KeepsFree}
use Rattle.x86_64.specs.Processors.{NoneLoses}
use Rattle.x86_64.specs.Replies.{Reply}
use Rattle.x86_64.specs.Runs.{step_by}
use Rattle.x86_64.specs.declared.flushing.Flush.{Flush}
use Rattle.x86_64.specs.declared.flushing.Flush.TheVariants.{Nothing, Tables, Page, Everything}

-- The address spaces with these layouts, the memory and its free frames, and the processor arose by events that may happen, and no
-- call is under way: by calls, new spaces, loads of CR3, flushes, and by what the processor caches and marks, from empty caches on.
pub record IsReachedBySwitches (k : Kernel) (places : Places) (m : Memory) (pool : List ℕ) (layouts : List Layout)
    (s : Switching) : Type 0 where
  pub start : Switching
  pub events : List SwitchEvent
  pub switches : Switches k start events (between k (words_of m places) pool layouts s)

-- Nothing is due, and no call is under way.
pub record NoneDue (s : Switching) : Type 0 where
  pub none_due : (tag : Tag) → s.due tag ≡ []
  pub none_under_way : s.under_way ≡ []

-- ---- a call

-- A call on one of the address spaces led, as `run_call` ensures it, from the memory m and a pool to the memory n and the rest of
-- the pool. The root's entries at the indices that it shares stay. It reaches its own root, and each root with which it shares an
-- index that it doesn't avoid.
pub record RunsOn (k : Kernel) (places : Places) (sharing : (root other : ℕ) → ℕ → Bool) (m : Memory)
    (pool : List ℕ) (n : Memory)
    (rest : List ℕ) (layouts : List Layout) (one : Layout) (call : Call) (reply : Reply)
    (loses : Bool) (reaches : ℕ → Bool) (everywhere : Bool) : Type 0 where
  pub steps : step_by (machine_of one k.take_back) (state_in one m pool) call
      ≡ record { state = state_in one n rest; reply = Some reply }
  pub free : KeepsFree one m pool (freed_by one.levels (state_in one m pool) call) n rest
  pub keeps : KeepsPool one k.serves m pool n rest
  pub is_call : IsCall one.levels call
  pub adds : IsParentFlags one.added_flags
  pub loses_nothing : loses ≡ false
      → NoneLoses (machine_of one k.take_back) (state_in one m pool) call
  pub is_sharing : IsSharing sharing
  pub all_share : AllShare k sharing
  pub there : In layouts one
  pub are : ArePaired sharing m k.serves pool layouts
  pub before : MaySwitchIn k places (words_of m places) layouts
  pub later : MaySwitchIn k places (words_of n places) layouts
  pub root_entries : (b : Layout) → In layouts b → one.root ≢ b.root
      → KeepsRootEntries (sharing one.root b.root) one m n
  pub unreached : (b : Layout) → In layouts b → reaches b.root ≡ false
      → (one.root ≢ b.root) × Avoids one.levels (sharing one.root b.root) call
  pub avoids : everywhere ≡ false → Avoids one.levels k.shared call

-- What a call on one of the address spaces makes due, or nothing if the kernel knows that no used entry loses anything.
abbrev pub made_by : Kernel → Layout → Memory → (pool : List ℕ) → Call → (loses : Bool) → List Due
made_by k one m pool call loses = cond loses (due_after (machine_of one k.take_back) (state_in one m pool) call) []

-- The system after a call that made this due: for the items of each PCID that holds a root that the call reaches, and for global
-- translations, unless the call avoids the indices that all share.
abbrev pub with_due : (new : List Due) (reaches : ℕ → Bool) (everywhere : Bool) → Switching → Switching
with_due new reaches everywhere s = record s {
  under_way = [];
  reaches = reaches;
  everywhere = everywhere;
  due = λ tag. cond (is_concerned s.holder reaches everywhere tag) new [] ++ s.due tag;
}

-- ---- its flush

-- What the kernel executes on the processor for a flush: nothing, INVLPG of the address at this position, or a flush of
-- everything.
abbrev pub executed_here : Flush → (position : ℕ) → List TaggedFlush
executed_here Nothing p = []
executed_here Tables p = Invlpg p ∷ []
executed_here Page p = Invlpg p ∷ []
executed_here Everything p = InvpcidAll ∷ []

-- Each item after a flush was on the processor before, and survives it. Without a flush the items stay. At most one flush is
-- executed.
abbrev pub LeftHere : (L : ℕ) → Switching → List TaggedFlush → (after : List Tagged) → Type 0
LeftHere L s [] after = after ≡ s.cache
LeftHere L s (f ∷ more) after = (c : Tagged) → In after c
    → In s.cache c × (is_left L s.pcid f c.tag c.item ≡ true)

-- The PCIDs that are given up, on whose items the kernel no longer counts: none is the current one, and unless everything is
-- flushed, each other PCID that holds a root that the call reaches is among them. The next load of CR3 with one of them may not
-- keep its items (bit 63).
pub record AreGivenUp (s : Switching) (flush : Flush) (given_up : List ℕ) : Type 0 where
  pub others : (c : ℕ) → In given_up c → c ≢ s.pcid
  pub all : flush ≢ Everything → (c : ℕ) → c ≢ s.pcid → is_held s.reaches (s.holder c) ≡ true → In given_up c

-- The events of a flush: the kernel executes it, which leaves the items `after`, and gives up PCIDs.
abbrev pub flush_events : List TaggedFlush → (after : List Tagged) → (given_up : List ℕ) → List SwitchEvent
flush_events fs after given_up = map (λ f. Flushes f after) fs ++ map Abandons given_up

-- ---- laws

-- A processor may start in an address space of a memory, with empty caches.
abbrev pub ReachedFirst : Type 0
ReachedFirst = (k : Kernel) (places : Places) → IsMapping places → 0 < k.levels → TakesBack k.take_back
    → (sharing : (root other : ℕ) → ℕ → Bool) → AllShare k sharing
    → (m : Memory) (pool : List ℕ) (layouts : List Layout) → ArePaired sharing m k.serves pool layouts
    → MaySwitchIn k places (words_of m places) layouts
    → (one : Layout) → In layouts one → (pcid : ℕ)
    → let s = started_in k (words_of m places) pool layouts one pcid in IsReachedBySwitches k places m pool layouts s
    × NoneDue s

-- Any events that may happen lead on: what the processor caches, marks and loads, and what the kernel does.
abbrev pub ReachedByEvents : Type 0
ReachedByEvents = (k : Kernel) (places : Places) (m n : Memory) (pool rest : List ℕ)
    (layouts later : List Layout) (s t : Switching)
    → IsReachedBySwitches k places m pool layouts s
    → (events : List SwitchEvent) → let now = between k (words_of m places) pool layouts s in
    AllMaySwitch k now events → after_switches k now events ≡ between k (words_of n places) rest later t
    → IsReachedBySwitches k places n rest later t

-- A call as `run_call` ensures it makes due what the model's `flush_after` returns, or nothing if the kernel knows that no used
-- entry loses anything. It takes no frame of a freed table while tables are due for a PCID, and no map of a smaller page may begin
-- where a larger one is due.
abbrev pub ReachedByCalls : Type 0
ReachedByCalls = (k : Kernel) (places : Places) → IsMapping places → 0 < k.levels → TakesBack k.take_back
    → (sharing : (root other : ℕ) → ℕ → Bool) (m n : Memory) (pool rest : List ℕ) (layouts : List Layout)
    (one : Layout)
    → (call : Call) (reply : Reply) (loses : Bool) (reaches : ℕ → Bool) (everywhere : Bool)
    (s : Switching)
    → RunsOn k places sharing m pool n rest layouts one call reply loses reaches everywhere
    → IsReachedBySwitches k places m pool layouts s
    → ((c : ℕ) → StayFree (s.due (Of c)) pool rest)
    → ((tag : Tag) (q r : List ℕ) (frame : ℕ) → In (s.due tag) (PageDue q frame)
    → mapped_by one.levels call ≡ Some r → is_below q r ≡ false)
    → IsReachedBySwitches k places n rest layouts (with_due (made_by k one m pool call loses) reaches everywhere s)

-- If this list has all that is due, and each PCID for which something is due holds a root that the call reaches, the flush for
-- the list leaves nothing due once the other PCIDs are given up.
abbrev pub ReachedByFlushes : Type 0
ReachedByFlushes = (k : Kernel) (places : Places) (m : Memory) (pool : List ℕ) (layouts : List Layout)
    (s : Switching)
    → IsReachedBySwitches k places m pool layouts s → s.under_way ≡ []
    → (due : List Due) → ((tag : Tag) (d : Due) → In (s.due tag) d → In due d)
    → ((c : ℕ) (d : Due) → In (s.due (Of c)) d → is_held s.reaches (s.holder c) ≡ true)
    → (p : ℕ) → InPages k.levels due p
    → (after : List Tagged) → LeftHere k.levels s (executed_here (flush_for due) p) after → (given_up : List ℕ)
    → AreGivenUp s (flush_for due) given_up
    → let t = after_switches k s (flush_events (executed_here (flush_for due) p) after given_up) in IsReachedBySwitches k places m pool layouts t × NoneDue t

-- A call as `run_call` ensures it leaves nothing due if the flush follows that `flush_after` returns, or `flush_after_change` if
-- the caller may know that no used entry loses anything, and the other PCIDs are given up.
abbrev pub ReachedByFlushedCalls : Type 0
ReachedByFlushedCalls = (k : Kernel) (places : Places) → IsMapping places → 0 < k.levels
    → TakesBack k.take_back
    → (sharing : (root other : ℕ) → ℕ → Bool) (m n : Memory) (pool rest : List ℕ) (layouts : List Layout)
    (one : Layout)
    → (call : Call) (reply : Reply) (loses : Bool) (reaches : ℕ → Bool) (everywhere : Bool)
    (s : Switching)
    → RunsOn k places sharing m pool n rest layouts one call reply loses reaches everywhere
    → IsReachedBySwitches k places m pool layouts s → NoneDue s
    → (flush : Flush)
    → TellsFlush one.levels call reply (option_map (λ (w : Window). w.index) one.window) loses flush
    → let p = unwrap_or (page_of_call one.levels call) 0 in let called = with_due (made_by k one m pool call loses) reaches everywhere s in
    (after : List Tagged) → LeftHere k.levels called (executed_here flush p) after → (given_up : List ℕ)
    → AreGivenUp called flush given_up
    → let t = after_switches k called (flush_events (executed_here flush p) after given_up) in IsReachedBySwitches k places n rest layouts t × NoneDue t

-- If nothing is due for the items that serve, each access goes with the page walk from the current root.
abbrev pub ReachedAccessesGo : Type 0
ReachedAccessesGo = (k : Kernel) (places : Places) (m : Memory) (pool : List ℕ) (layouts : List Layout)
    (s : Switching)
    → IsReachedBySwitches k places m pool layouts s → due_here s ≡ [] → (one : Layout) → In layouts one
    → one.root ≡ s.root
    → (p : ℕ) (w : PartialWalk) → MayAccess k.levels s.root (words_of m places) (usable s.pcid s.cache) p w
    → WalksThere (walk_with_rights k.levels (words_of m places) s.root p) w
