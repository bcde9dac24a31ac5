-- The conditions and effects of a mapper's calls, over one record: the hierarchy that the mapper owns for a while.
use Rattle.std.specs.Prelude.{◌≢◌, ◌≡◌, ◌⊎◌, ◌<◌, ◌+◌, ℕ, Bool, true, List, ◌∷◌, None, Some, Option}
use Rattle.x86_64_model.specs.Allowed.{allowed, map_allowed, map_call_allowed, refuses}
use Rattle.x86_64_model.specs.Arrivals.{Arrives}
use Rattle.x86_64_model.specs.Call.{Call, MapTo, MapToWithTableFlags, IdentityMap, Unmap, UpdateFlags, SetFlags, Answered, parent_flags_of}
use Rattle.x86_64_model.specs.CleanUp.{AfterCleanUp, clean_up}
use Rattle.x86_64_model.specs.Entry.{writable, user, address}
use Rattle.x86_64_model.specs.Lists.{In}
use Rattle.x86_64_model.specs.Machine.{Machine, State, do_call}
use Rattle.x86_64_model.specs.MapRule.{AfterMap, map_call, parent_part}
use Rattle.x86_64_model.specs.Memory.{Memory, Words, word, words_of}
use Rattle.x86_64_model.specs.PageRules.{AfterChange, unmap, update_flags, set_flags, translate_page}
use Rattle.x86_64_model.specs.PageWalk.{Walked, page_walk}
use Rattle.x86_64_model.specs.Path.{front_at, path_at}
use Rattle.x86_64_model.specs.PathMap.{PathMap, table_at}
use Rattle.x86_64_model.specs.Pool.{IsTable, Fits, TakesBack, with_returned}
use Rattle.x86_64_model.specs.Refusal.{Answer}
use Rattle.x86_64_model.specs.Standing.{IsMappedIn}
use Rattle.x86_64_model.specs.Translation.{Translated, translate}
use Rattle.x86_64_model.specs.Validity.{paths_of}
use Rattle.x86_64_model.specs.Layout.{Layout}
use Rattle.std.specs.FinMap.{get}
use Rattle.x86_64_model.specs.Window.{Window, outside_window, entry_at, IsValidFor}

-- A hierarchy that a mapper owns for a while: its fixed layout, the current memory, and what was lent to the mapper, which is the
-- memory and what finds frames in it.
pub record Hierarchy (Lent : Type 0) : Type 0 where
  pub layout : Layout
  pub memory : Memory
  pub lent : Lent

-- The hierarchy that a layout has in a memory, with nothing lent.
infix 50 ◌laid_in◌
abbrev pub ◌laid_in◌ : Layout → Memory → Hierarchy (Unit {0})
layout laid_in memory = record { layout = layout; memory = memory; lent = tt }

-- ---- what it means now

-- The table in each frame of a hierarchy's memory, None if the frame isn't covered or isn't in the memory.
abbrev pub words : {Lent : Type 0} → Hierarchy Lent → Words
words h = words_of h.memory h.layout.places

-- The path map that the words of a hierarchy hold, with the root's word at the recursive index left out.
abbrev pub paths : {Lent : Type 0} → Hierarchy Lent → PathMap
paths h = paths_of h.layout.levels (outside_window h.layout.window h.layout.root (words h)) h.layout.root

-- The entry of a hierarchy that is read at a path, through the recursive index if there is one.
abbrev pub read_entry : {Lent : Type 0} → Hierarchy Lent → List ℕ → ℕ
read_entry h q = entry_at h.layout.window (paths h) q

-- The result of the processor's page walk in a hierarchy at a position (the number of an address counted without the non-canonical
-- gap).
abbrev pub walk : {Lent : Type 0} → Hierarchy Lent → (position : ℕ) → Option Walked
walk h p = page_walk h.layout.levels (words h) h.layout.root p

-- The answer of `translate` in a hierarchy at a position (the number of an address counted without the non-canonical gap).
abbrev pub translation : {Lent : Type 0} → Hierarchy Lent → (position : ℕ) → Translated
translation h p = translate h.layout.levels (read_entry h) p

-- The path of the entry of a level, in a hierarchy, at a position (the number of an address counted without the non-canonical gap).
abbrev pub path_of : {Lent : Type 0} → Hierarchy Lent → (level position : ℕ) → List ℕ
path_of h level p = path_at h.layout.levels level p

-- The answer of `translate_page` in a hierarchy for the page at a path.
abbrev pub page_translation : {Lent : Type 0} → Hierarchy Lent → (page : List ℕ) → Answer
page_translation h q = translate_page h.layout.levels (read_entry h) q

-- The hierarchy is valid, including the self-entry if there is a recursive index.
abbrev pub Valid : {Lent : Type 0} → Hierarchy Lent → Type 0
Valid h = IsValidFor h.layout.levels h.layout.window (words h) h.layout.root (paths h)

-- The hierarchy is valid, and a pool of free frames fits it: they are distinct, in the memory, and neither frame 0 nor in use as
-- tables, and the pool serves them and the frame of each table but the root.
abbrev pub PoolFits : {Lent : Type 0} → Hierarchy Lent → (serves : ℕ → Bool) → (pool : List ℕ) → Type 0
PoolFits h serves pool = Fits h.layout.levels h.layout.window (words h) h.layout.root (paths h) serves pool

-- The hierarchy is valid, and a supply (the frames to hand out, in order) fits it, whatever serves them: they are distinct, in the
-- memory, and neither frame 0 nor in use as tables.
abbrev pub SupplyFits : {Lent : Type 0} → Hierarchy Lent → (supply : List ℕ) → Type 0
SupplyFits h supply = PoolFits h (λ f. true) supply

-- The frame holds the root or another table of the hierarchy.
abbrev pub HoldsTable : {Lent : Type 0} → Hierarchy Lent → (frame : ℕ) → Type 0
HoldsTable h f = IsTable h.layout.levels h.layout.root (paths h) f

-- The frame holds the root or another table of the hierarchy, or is in the supply.
abbrev pub Owns : {Lent : Type 0} → Hierarchy Lent → (supply : List ℕ) → (frame : ℕ) → Type 0
Owns h supply f = In supply f ⊎ HoldsTable h f

-- The frame holds the root or another table of the hierarchy, or was taken from the supply, of which the rest is left.
abbrev pub Uses : {Lent : Type 0} → Hierarchy Lent → (supply rest : List ℕ) → (frame : ℕ) → Type 0
Uses h supply rest f = Owns h supply f × (In rest f → ⊥)

-- From a hierarchy to the one after it, only words in these frames change: every place where none of them lies keeps its words.
abbrev pub KeepsOthers : {Lent : Type 0} → (frames : ℕ → Type 0) → (h after : Hierarchy Lent) → Type 0
KeepsOthers frames h after = (k : ℕ) → ((f : ℕ) → frames f → h.layout.places.place f ≢ k) → get after.memory k ≡ get h.memory k

-- What each call keeps that changes words in these frames alone: the hierarchy is valid again, the words elsewhere stay, and so do
-- its layout and what was lent.
pub record KeepsBut {Lent : Type 0} (frames : ℕ → Type 0) (h after : Hierarchy Lent) : Type 0 where
  pub valid : Valid after
  pub others : KeepsOthers frames h after
  pub layout : after.layout ≡ h.layout
  pub lent : after.lent ≡ h.lent

-- ---- what a call asks for

-- Whether a call is allowed in a hierarchy.
abbrev pub allows : {Lent : Type 0} → Hierarchy Lent → Call → Bool
allows h call = allowed h.layout.levels h.layout.window (paths h) call

-- Whether the page at a path may be mapped in a hierarchy with these flags and parent flags, to any frame.
abbrev pub allows_map : {Lent : Type 0} → Hierarchy Lent → (page : List ℕ) → (flags parent_flags : ℕ) → Bool
allows_map h q given parent_flags = map_allowed h.layout.levels h.layout.window (paths h) q given parent_flags

-- Whether a call that maps a page is allowed in a hierarchy, false for any other call.
abbrev pub allows_map_call : {Lent : Type 0} → Hierarchy Lent → Call → Bool
allows_map_call h call = map_call_allowed h.layout.levels h.layout.window (paths h) call

-- The hierarchy is valid, and a call's own condition, which is given, holds.
pub record MayIf {Lent : Type 0} (h : Hierarchy Lent) (condition : Bool) : Type 0 where
  pub valid : Valid h
  pub allowed : condition ≡ true

-- The call may be made: the hierarchy is valid, and the call is allowed.
abbrev pub MayCall : {Lent : Type 0} → Hierarchy Lent → Call → Type 0
MayCall h call = MayIf h (allows h call)

-- The hierarchy is valid, the supply (the frames to hand out, in order) fits it, and a map's own condition, which is given, holds.
pub record MayMapIf {Lent : Type 0} (h : Hierarchy Lent) (supply : List ℕ) (condition : Bool) : Type 0 where
  pub fits : SupplyFits h supply
  pub allowed : condition ≡ true

-- The map may be made: the hierarchy is valid, the supply (the frames to hand out, in order) fits it, and the call is allowed.
abbrev pub MayMap : {Lent : Type 0} → Hierarchy Lent → (supply : List ℕ) → Call → Type 0
MayMap h supply call = MayMapIf h supply (allows_map_call h call)

-- ---- what it leaves

-- The outcome of a call that maps a page, by the rule of maps: the path map, the rest of the supply (the frames to hand out, in order),
-- and the answer. None for any other call.
abbrev pub map_outcome : (L added_flags : ℕ) → PathMap → (supply : List ℕ) → Call → Option AfterMap
map_outcome L added paths supply (MapTo level page frame given) = Some (map_call L paths supply (parent_part given) added (path_at L level page) frame given)
map_outcome L added paths supply (MapToWithTableFlags level page frame given more) = Some (map_call L paths supply more added (path_at L level page) frame given)
map_outcome L added paths supply (IdentityMap level frame given) = Some (map_call L paths supply (parent_part given) added (path_at L level frame) frame given)
map_outcome L added paths supply call = None

-- The outcome of a call that changes one entry, by its rule: the path map and the answer. None for any other call.
abbrev pub change_outcome : (L : ℕ) → Option Window → PathMap → Call → Option AfterChange
change_outcome L window paths (Unmap level page) = Some (unmap L (entry_at window paths) paths (path_at L level page))
change_outcome L window paths (UpdateFlags level page given) = Some (update_flags L (entry_at window paths) paths (path_at L level page) given)
change_outcome L window paths (SetFlags at level page given) = Some (set_flags L (entry_at window paths) paths at (path_at L level page) given)
change_outcome L window paths call = None

-- The machine of a layout, with a pool that puts a returned frame where `take_back` says.
abbrev pub machine_of : Layout → (take_back : List ℕ → ℕ → List ℕ) → Machine
machine_of layout take_back = record { levels = layout.levels; window = layout.window; added_flags = layout.added_flags; take_back = take_back }

-- The machine's state: the path map that the memory's words hold in the layout, and the free frames.
abbrev pub state_in : Layout → Memory → (pool : List ℕ) → State
state_in layout memory pool = record { paths = paths (layout laid_in memory); pool = pool }

-- The machine's state that a hierarchy is: the path map that its words hold, and the free frames.
abbrev pub state_of : {Lent : Type 0} → Hierarchy Lent → (pool : List ℕ) → State
state_of h pool = state_in h.layout h.memory pool

-- The call, if it is allowed, leads the machine from this hierarchy and pool to those after it, with this answer, wherever the pool
-- puts returned frames.
abbrev pub IsStep : {Lent : Type 0} → (h : Hierarchy Lent) → (pool : List ℕ) → Call → Answer → (after : Hierarchy Lent) → (rest : List ℕ) → Type 0
IsStep h pool call answer after rest =
    (take_back : List ℕ → ℕ → List ℕ) → do_call (machine_of h.layout take_back) (state_of h pool) call ≡ record { state = state_of after rest; reply = Answered answer }

-- The effect of a change of one entry, whose outcome by its rule is given (None if no rule has one). The path map and the answer are
-- those of the outcome, the hierarchy is valid again, and a supply that fitted still fits. Only words in the root and the tables
-- change, and a refused change changes none.
pub record Changes {Lent : Type 0} (h : Hierarchy Lent) (rule : Option AfterChange) (answer : Answer) (after : Hierarchy Lent) : Type 0 where
  pub outcome : rule ≡ Some (record { paths = paths after; answer = answer })
  pub fits : (supply : List ℕ) → SupplyFits h supply → SupplyFits after supply
  pub refused : refuses answer ≡ true → after.memory ≡ h.memory
  pub keeps : KeepsBut (HoldsTable h) h after

-- The effect of a call that changes one entry: that of its rule.
abbrev pub Does : {Lent : Type 0} → (h : Hierarchy Lent) → Call → Answer → (after : Hierarchy Lent) → Type 0
Does h call answer after = Changes h (change_outcome h.layout.levels h.layout.window (paths h) call) answer after

-- The effect of a map, whose outcome by its rule and whose parent flags are given, after which the rest of the supply is left. The
-- path map, the rest and the answer are those of the outcome, the rest fits the hierarchy, and only words in the root, the tables
-- and the taken frames change. Each page walk that arrived still arrives at the same address, loses no right, and gains only rights
-- that the parent flags grant.
pub record Maps {Lent : Type 0} (h : Hierarchy Lent) (supply : List ℕ) (rule : Option AfterMap) (parent_flags : Option ℕ) (answer : Answer) (after : Hierarchy Lent) (rest : List ℕ) : Type 0 where
  pub outcome : rule ≡ Some (record { paths = paths after; supply = rest; answer = answer })
  pub fits : SupplyFits after rest
  pub walks : (more : ℕ) → parent_flags ≡ Some more → (p : ℕ) → Arrives more (walk h p) (walk after p)
  pub keeps : KeepsBut (Uses h supply rest) h after

-- The effect of a call that maps a page, after which the rest of the supply is left: that of the rule of maps.
abbrev pub DoesMap : {Lent : Type 0} → (h : Hierarchy Lent) → (supply : List ℕ) → Call → Answer → (after : Hierarchy Lent) → (rest : List ℕ) → Type 0
DoesMap h supply call answer after rest =
    Maps h supply (map_outcome h.layout.levels h.layout.added_flags (paths h) supply call) (parent_flags_of call) answer after rest

-- The frame that is named by the entry whose flags the call changes, 0 for a call that changes no flags.
abbrev pub named : {Lent : Type 0} → Hierarchy Lent → Call → ℕ
named h (UpdateFlags level page given) = address (read_entry h (path_of h level page))
named h (SetFlags at level page given) = address (read_entry h (front_at h.layout.levels at (path_of h level page)))
named h call = 0

-- The page walk at each offset of the page of this size (in bytes) that starts at a position arrives at the frame's start plus the
-- offset, with exactly the rights to write and of user mode that the flags have.
abbrev pub ArrivesIn : {Lent : Type 0} → Hierarchy Lent → (size page frame flags : ℕ) → Type 0
ArrivesIn h size page frame given =
    (offset : ℕ) → offset < size → walk h (page + offset) ≡ Some (record { address = frame + offset; write = writable given; user = user given })

-- The page of a level that starts at a position is mapped to the frame as a `map_to` with these flags maps it.
abbrev pub IsMappedAs : {Lent : Type 0} → Hierarchy Lent → (level page frame flags : ℕ) → Type 0
IsMappedAs h level page frame given = IsMappedIn h.layout.levels level (paths h) (path_of h level page) frame given

-- ---- clean ups

-- The frames that a clean up of the positions from low to high frees, in order.
abbrev pub freed_frames : {Lent : Type 0} → Hierarchy Lent → (low high : ℕ) → List ℕ
freed_frames h low high = (clean_up h.layout.levels (paths h) low high).back

-- The clean up may be made: the hierarchy is valid, and the frame of each table but the root is served by the pool and not held in
-- it.
pub record MayCleanUp {Lent : Type 0} (h : Hierarchy Lent) (serves : ℕ → Bool) (held : List ℕ) : Type 0 where
  pub valid : Valid h
  pub serves_tables : (i : ℕ) (q : List ℕ) (f : ℕ) → table_at h.layout.levels h.layout.root (paths h) (i ∷ q) ≡ Some f → serves f ≡ true
  pub none_held : (i : ℕ) (q : List ℕ) (f : ℕ) → table_at h.layout.levels h.layout.root (paths h) (i ∷ q) ≡ Some f → In held f → ⊥

-- The effect of a clean up whose outcome by its rule is given, after which each freed frame is held where `take_back` puts it. A
-- supply that fitted still fits with the freed frames added. The freed frames have only words 0, and only words in the root and the
-- tables change.
pub record FreesTables {Lent : Type 0} (h : Hierarchy Lent) (take_back : List ℕ → ℕ → List ℕ) (held : List ℕ) (rule : AfterCleanUp) (after : Hierarchy Lent) (rest : List ℕ) : Type 0 where
  pub outcome : paths after ≡ rule.paths
  pub returned : rest ≡ with_returned take_back held rule.back
  pub fits : (take_back : List ℕ → ℕ → List ℕ) → TakesBack take_back → (supply : List ℕ) → SupplyFits h supply → SupplyFits after (with_returned take_back supply rule.back)
  pub empty : (f : ℕ) → In rule.back f → (i : ℕ) → word (words after) f i ≡ 0
  pub keeps : KeepsBut (HoldsTable h) h after

-- The effect of a clean up of the positions from low to high: that of the rule of clean ups.
abbrev pub CleansUp : {Lent : Type 0} → (h : Hierarchy Lent) → (take_back : List ℕ → ℕ → List ℕ) → (held : List ℕ) → (low high : ℕ) → (after : Hierarchy Lent) → (rest : List ℕ) → Type 0
CleansUp h take_back held low high after rest = FreesTables h take_back held (clean_up h.layout.levels (paths h) low high) after rest
