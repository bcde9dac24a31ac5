-- Laws of address spaces in a memory, between which a processor switches: what a call keeps lets it happen.
use Rattle.std.specs.Prelude.{◌≡◌, ◌≢◌, ◌<◌, ℕ, Bool, true, false, List, [], ◌∷◌, map, Some, None}
use Rattle.x86_64_model.specs.Lists.{In}
use Rattle.x86_64_model.specs.Call.{Call, IsCall}
use Rattle.x86_64_model.specs.Entry.{IsParentFlags, used, present, global}
use Rattle.x86_64_model.specs.Flushing.{PageDue, LosesNothing, mapped_by, IsUnflushed, StayFree}
use Rattle.x86_64_model.specs.Validity.{paths_of}
use Rattle.x86_64_model.specs.Layout.{Layout}
use Rattle.x86_64_model.specs.Machine.{step}
use Rattle.x86_64_model.specs.Mappings.{maps_page}
use Rattle.x86_64_model.specs.Memory.{Memory, Words, Places, IsMapping, words_of}
use Rattle.x86_64_model.specs.Path.{level_of, is_below}
use Rattle.x86_64_model.specs.PathMap.{entry}
use Rattle.x86_64_model.specs.Spaces.{is_shared, AreSpaces, IsSharing, ArePaired, Avoids}
use Rattle.x86_64_model.specs.Store.{KeepsPool}
use Rattle.x86_64_model.specs.Pool.{TakesBack}
use Rattle.x86_64_model.specs.Window.{begins_with, entry_at, outside_window}
use Rattle.x86_64_model.specs.Tags.{Tag, Of}
use Rattle.x86_64_model.specs.Switches.{holder_with, Kernel, Space, AreHeld, held_by, Switching, machine_at, Makes, Writes, Returns, SwitchEvent, Pools, Begins, Ends}
use Rattle.x86_64_model.specs.MaySwitch.{MayBegin, AllMaySwitch, after_switches}
use Rattle.x86_64_model.specs.Laws.Caches.{IsAfterCall}
use Rattle.x86_64_model.specs.Laws.Spaces.{KeepsRootEntries, IsNewRoot}
use Rattle.x86_64_model.specs.Laws.Switches.{IsStarted}

-- The space of a layout, as words hold it while no call is under way.
abbrev pub space_for : Kernel → Words → Layout → Space
space_for k T l = record {
  root = l.root;
  window = l.window;
  added_flags = l.added_flags;
  paths = paths_of k.levels (outside_window l.window l.root T) l.root;
  next = paths_of k.levels (outside_window l.window l.root T) l.root;
}

-- A processor may switch between the layouts: they have frames at these places and the kernel's number of
-- levels. Only below the shared indices entries of pages have GLOBAL, no recursive index is shared, and all
-- layouts have one, or none.
pub record MaySwitchIn (k : Kernel) (places : Places) (T : Words) (layouts : List Layout) : Type 0 where
  pub mapping : (l : Layout) → In layouts l → l.places ≡ places
  pub same_levels : (l : Layout) → In layouts l → l.levels ≡ k.levels
  pub globals : (l : Layout) → In layouts l → (q : List ℕ)
      → let e = entry_at l.window (space_for k T l).paths q in
      present e ≡ true → maps_page (level_of k.levels q) e ≡ true → global e ≡ true
      → is_shared k.shared q ≡ true
  pub windows : (l : Layout) → In layouts l → (q : List ℕ) → begins_with l.window q ≡ true
      → is_shared k.shared q ≡ false
  pub all_or_none : (l j : Layout) → In layouts l → In layouts j → l.window ≡ None → j.window ≡ None

-- Any two roots share the indices that all share.
abbrev pub AllShare : Kernel → (sharing : (root other : ℕ) → ℕ → Bool) → Type 0
AllShare k sharing = (root other i : ℕ) → k.shared i ≡ true → sharing root other i ≡ true

-- Address spaces of a memory, between which a processor may switch, are spaces whose path maps the words
-- hold.
abbrev pub SpacesAreHeld : Type 0
SpacesAreHeld = (k : Kernel) (places : Places) → IsMapping places → 0 < k.levels
    → (sharing : (root other : ℕ) → ℕ → Bool) → AllShare k sharing
    → (m : Memory) (pool : List ℕ) (layouts : List Layout) → ArePaired sharing m k.serves pool layouts
    → MaySwitchIn k places (words_of m places) layouts
    → AreHeld k (words_of m places) (map (space_for k (words_of m places)) layouts)

-- The system while no call is under way, with these words, free frames and address spaces.
abbrev pub between : Kernel → Words → (pool : List ℕ) → List Layout → Switching → Switching
between k T pool layouts s = record s { spaces = map (space_for k T) layouts; pool = pool; words = T }

-- The system in which a processor starts with the root of an address space and a PCID, which holds it: nothing
-- is cached or due, and no other PCID holds a root.
abbrev pub started_in : Kernel → Words → (pool : List ℕ) → List Layout → (one : Layout) → (pcid : ℕ)
    → Switching
started_in k T pool layouts one pcid = record {
  spaces = map (space_for k T) layouts;
  pool = pool;
  words = T;
  under_way = [];
  reaches = λ root. false;
  everywhere = false;
  root = one.root;
  pcid = pcid;
  holder = holder_with pcid (Some one.root) (λ c. None);
  cache = [];
  due = λ tag. [];
}

-- A processor may start in any of the address spaces of a memory between which it may switch, with any
-- PCID. Nothing is cached or due then, and no other PCID holds a root.
abbrev pub SpacesMayStart : Type 0
SpacesMayStart = (k : Kernel) (places : Places) → IsMapping places → 0 < k.levels
    → (sharing : (root other : ℕ) → ℕ → Bool) → AllShare k sharing
    → (m : Memory) (pool : List ℕ) (layouts : List Layout) → ArePaired sharing m k.serves pool layouts
    → MaySwitchIn k places (words_of m places) layouts
    → (one : Layout) → In layouts one → (pcid : ℕ)
    → IsStarted k (started_in k (words_of m places) pool layouts one pcid)

-- One more address space of a memory may begin while a processor switches, if no PCID holds its root.
abbrev pub NewSpacesMayBegin : Type 0
NewSpacesMayBegin = (k : Kernel) (places : Places) → IsMapping places → 0 < k.levels
    → (sharing : (root other : ℕ) → ℕ → Bool) → AllShare k sharing
    → (m : Memory) (pool : List ℕ) (new : Layout) (layouts : List Layout)
    → ArePaired sharing m k.serves pool (new ∷ layouts)
    → MaySwitchIn k places (words_of m places) (new ∷ layouts)
    → (s : Switching) → ((c : ℕ) → s.holder c ≢ Some new.root)
    → MayBegin k (between k (words_of m places) pool layouts s) (space_for k (words_of m places) new)

-- A call on one of the address spaces led from the memory m and a pool to the memory n and the rest of the
-- pool. It conserved frames, kept the root's entries at the indices that it shares, and left in each free
-- frame what was there, or words 0 if it freed the frame. No tables or pages that are due forbid it, and it
-- is to be flushed for its own root, and for each root with which it shares an index that it doesn't avoid.
pub record CallsOn (k : Kernel) (places : Places) (sharing : (root other : ℕ) → ℕ → Bool)
    (m : Memory) (pool : List ℕ) (n : Memory) (rest : List ℕ) (layouts : List Layout) (one : Layout)
    (s : Switching) (call : Call) (loses : Bool) (reaches : ℕ → Bool) (everywhere : Bool) : Type 0 where
  pub is_sharing : IsSharing sharing
  pub all_share : AllShare k sharing
  pub there : In layouts one
  pub are : ArePaired sharing m k.serves pool layouts
  pub before : MaySwitchIn k places (words_of m places) layouts
  pub later : MaySwitchIn k places (words_of n places) layouts
  pub adds : IsParentFlags one.added_flags
  pub is_call : IsCall k.levels call
  pub steps : let a = space_for k (words_of m places) one in
      (step (machine_at k a) (record { paths = a.paths; pool = pool }) call).state
      ≡ record { paths = (space_for k (words_of n places) one).paths; pool = rest }
  pub keeps : KeepsPool one k.serves m pool n rest
  pub root_entries : (b : Layout) → In layouts b → one.root ≢ b.root
      → KeepsRootEntries (sharing one.root b.root) one m n
  pub free : let a = space_for k (words_of m places) one in
      IsAfterCall (machine_at k a) one.root (words_of m places) (words_of n places)
      (record { paths = a.paths; pool = pool }) call
  pub loses_nothing : loses ≡ false → (q : List ℕ)
      → let e = entry (space_for k (words_of m places) one).paths q in
      used e ≡ true → LosesNothing e (entry (space_for k (words_of n places) one).paths q)
  pub waits : (c : ℕ) → StayFree (s.due (Of c)) pool rest
  pub apart : (tag : Tag) (q r : List ℕ) (frame : ℕ) → In (s.due tag) (PageDue q frame)
      → mapped_by k.levels call ≡ Some r → is_below q r ≡ false
  pub unreached : (b : Layout) → In layouts b → reaches b.root ≡ false
      → (one.root ≢ b.root) × Avoids k.levels (sharing one.root b.root) call
  pub avoids : everywhere ≡ false → Avoids k.levels k.shared call

-- The events of a call on the space of a layout: the kernel begins the call, the words of memory change
-- from T to U, and the call is done.
abbrev pub call_events : Kernel → (before after : Words) → (one : Layout) → Call → (loses : Bool)
    → (reaches : ℕ → Bool) → (everywhere : Bool) → List SwitchEvent
call_events k T U one call loses reaches everywhere =
    Makes (space_for k T one) call loses reaches everywhere (held_by k U) ∷ Writes U ∷ Returns ∷ []

-- A call on one of the address spaces of a memory, which conserves frames and keeps the root's entries at
-- shared indices, may happen while a processor switches between them. It leads to the system with the words
-- and the pool after it.
abbrev pub CallsMaySwitch : Type 0
CallsMaySwitch = (k : Kernel) (places : Places) → IsMapping places → 0 < k.levels → TakesBack k.take_back
    → (sharing : (root other : ℕ) → ℕ → Bool) (m n : Memory) (pool rest : List ℕ)
    → (layouts : List Layout) (one : Layout) (s : Switching)
    → (call : Call) (loses : Bool) (reaches : ℕ → Bool) (everywhere : Bool)
    → CallsOn k places sharing m pool n rest layouts one s call loses reaches everywhere
    → let T = words_of m places in let U = words_of n places in
    let now = between k T pool layouts s in let events = call_events k T U one call loses reaches everywhere in
    AllMaySwitch k now events
    × (after_switches k now events ≡ between k U rest layouts (after_switches k now events))

-- ---- one more space, or one less

-- The events by which a space begins: the kernel takes its root from the pool, which leaves the rest,
-- writes words, and begins the space.
abbrev pub new_events : Kernel → (after : Words) → (rest : List ℕ) → (new : Layout) → List SwitchEvent
new_events k U rest new = Pools rest ∷ Writes U ∷ Begins (space_for k U new) ∷ []

-- A frame of the pool may become the root of one more address space while a processor switches, if no
-- table that was in it is due for a PCID, and none holds this root. This leads to the system with the words, the rest of the
-- pool and the space.
abbrev pub NewSpacesMaySwitch : Type 0
NewSpacesMaySwitch = (k : Kernel) (places : Places) → IsMapping places → 0 < k.levels
    → (shared : ℕ → Bool) → ((i : ℕ) → k.shared i ≡ true → shared i ≡ true)
    → (m n : Memory) (rest : List ℕ) (layouts : List Layout) (first new : Layout) → In layouts first
    → AreSpaces shared m k.serves (new.root ∷ rest) layouts → IsNewRoot shared first m n new
    → MaySwitchIn k places (words_of m places) layouts
    → MaySwitchIn k places (words_of n places) (new ∷ layouts)
    → (s : Switching) → ((c : ℕ) → IsUnflushed (s.due (Of c)) new.root → ⊥) → ((c : ℕ) → s.holder c ≢ Some new.root)
    → let U = words_of n places in let now = between k (words_of m places) (new.root ∷ rest) layouts s in
    let events = new_events k U rest new in
    AllMaySwitch k now events
    × (after_switches k now events ≡ between k U rest (new ∷ layouts) (after_switches k now events))

-- The events by which a space ends: the kernel gives it up, and returns its root to the pool.
abbrev pub end_events : Kernel → (pool : List ℕ) → (gone : Layout) → List SwitchEvent
end_events k pool gone = Ends gone.root ∷ Pools (k.take_back pool gone.root) ∷ []

-- An address space may end while a processor switches, and its root go back to the pool, if no PCID holds
-- the root and no other space has it.
abbrev pub GivenUpMaySwitch : Type 0
GivenUpMaySwitch = (k : Kernel) → TakesBack k.take_back → (T : Words) (pool : List ℕ) (gone : Layout)
    (layouts : List Layout)
    → ((l : Layout) → In layouts l → l.root ≢ gone.root)
    → (s : Switching) → ((c : ℕ) → s.holder c ≢ Some gone.root)
    → let now = between k T pool (gone ∷ layouts) s in let events = end_events k pool gone in
    AllMaySwitch k now events
    × (after_switches k now events
    ≡ between k T (k.take_back pool gone.root) layouts (after_switches k now events))
