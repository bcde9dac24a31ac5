-- A kernel with several processes, between whose address spaces two processors switch. It unmaps pages and flushes later.
use Rattle.std.specs.Prelude.{◌≡◌, ◌≢◌, ◌<◌, ◌+◌, ℕ, Bool, true, List, [], ◌∷◌, length, map, Option, Some, None, Ok}
use Rattle.x86_64_mappers.specs.Layouts.{direct}
use Rattle.x86_64_model.specs.Caches.{PartialWalk, MayAccess, walked_in}
use Rattle.x86_64_model.specs.Call as machine
use Rattle.x86_64_model.specs.Call.{Call}
use Rattle.x86_64_model.specs.Flushing.{Due, PageDue, flush_after, mapped_by}
use Rattle.x86_64_model.specs.Laws.Caches.{in_page}
use Rattle.x86_64_model.specs.Laws.Globals.{GlobalsBelow, GlobalIsShared}
use Rattle.x86_64_model.specs.Layout.{Layout}
use Rattle.x86_64_model.specs.Lists.{In}
use Rattle.x86_64_model.specs.Hierarchy.{◌laid_in◌, paths}
use Rattle.x86_64_model.specs.Mappings.{maps_page}
use Rattle.x86_64_model.specs.Entry.{present}
use Rattle.x86_64_model.specs.Memory.{Memory, Words, identity_places, words_of}
use Rattle.x86_64_model.specs.PageWalk.{page_start}
use Rattle.x86_64_model.specs.Path.{level_of}
use Rattle.x86_64_model.specs.PathMap.{entry}
use Rattle.x86_64_model.specs.Spaces.{AreSpaces, Avoids}
use Rattle.x86_64_model.specs.Store.{Store}
use Rattle.x86_64_model.specs.Switches.{Kernel, Switching, holder_with}
use Rattle.x86_64_model.specs.Tags.{Tag, Of, Tagged, CachesTagged, InvpcidContext, is_left, is_left_by_load, usable}
use Rattle.x86_64.specs.Pairs.{pool_store}
use Rattle.x86_64.specs.Replies.{Reply}
use Rattle.x86_64.specs.SwitchingProcessors.{IsReachedBySwitches}
use Rattle.x86_64.specs.declared.call_values.MapperReply.TheVariants as replies
use Rattle.x86_64.specs.declared.call_values.PageReply.TheVariants as page_reply
use Rattle.uses.specs.Processes.{is_kernels}
use Rattle.uses.specs.declared.switching_kernel.Kernel.{Kernel as KernelOf}
use Rattle.uses.specs.declared.switching_kernel.Process.{Process}

-- ---- a processor

-- What contracts see of a processor: the root and the PCID in CR3, the root that the kernel knows to have loaded last with each
-- PCID, if it does, and the pages and tables that the processor has cached.
pub record ProcessorState : Type 0 where
  pub root : ℕ
  pub pcid : ℕ
  pub loaded : (pcid : ℕ) → Option ℕ
  pub cached : List Tagged

-- The processor's state with these cached items, and otherwise as it was.
abbrev pub with_cached : List Tagged → ProcessorState → ProcessorState
with_cached items s = record s { cached = items }

-- The processor has loaded no root but this one, with this PCID, and has cached nothing.
pub record BeginsWith (root pcid : ℕ) (now : ProcessorState) : Type 0 where
  pub has_root : now.root ≡ root
  pub has_pcid : now.pcid ≡ pcid
  pub loaded : (c r : ℕ) → now.loaded c ≡ Some r → holder_with pcid (Some root) (λ c. None) c ≡ Some r
  pub cached : now.cached ≡ []

-- The processor loaded CR3 with a root and a PCID, and kept the items of this PCID or not (bit 63). The kernel may forget what it
-- loaded with other PCIDs.
pub record LoadsCr3 (root pcid : ℕ) (keeps : Bool) (before now : ProcessorState) : Type 0 where
  pub has_root : now.root ≡ root
  pub has_pcid : now.pcid ≡ pcid
  pub loaded : (c r : ℕ) → now.loaded c ≡ Some r → holder_with pcid (Some root) before.loaded c ≡ Some r
  pub left : (c : Tagged) → In now.cached c → In before.cached c × (is_left_by_load pcid keeps c.tag ≡ true)

-- The processor executed INVPCID for all items of a PCID but global ones.
pub record FlushesPcid (pcid : ℕ) (before now : ProcessorState) : Type 0 where
  pub same : now ≡ with_cached now.cached before
  pub left : (c : Tagged) → In now.cached c → In before.cached c × (is_left 4 before.pcid (InvpcidContext pcid) c.tag c.item ≡ true)

-- Items are dropped and made, one time after another, while the words are these.
abbrev pub TaggedCachesInTurn : (root pcid : ℕ) → Words → (before : List Tagged) → (between : List (List Tagged)) → (now : List Tagged) → Type 0
TaggedCachesInTurn root pcid T before [] now = before ≡ now
TaggedCachesInTurn root pcid T before (next ∷ more) now = CachesTagged 4 root pcid T before next × TaggedCachesInTurn root pcid T next more now

-- The processor cached what it found in the memory, and nothing else changed.
pub record CachesChange (m : Memory) (before now : ProcessorState) : Type 0 where
  pub same : now ≡ with_cached now.cached before
  pub between : List (List Tagged)
  pub turns : TaggedCachesInTurn before.root before.pcid (words_of m identity_places) before.cached between now.cached

-- No access in the current address space goes to an address in the frame, whatever the processor has cached.
abbrev pub NeverReaches : Memory → ProcessorState → (frame : ℕ) → Type 0
NeverReaches m s frame = (p : ℕ) (w : PartialWalk) → MayAccess 4 s.root (words_of m identity_places) (usable s.pcid s.cached) p w
    → (offset : ℕ) → offset < 4096 → (walked_in 4 p w).address ≢ frame + offset

-- ---- the kernel

-- What contracts see of the kernel: its processes, the memory of tables, the free frames, the PCID of the process of which it
-- unmapped pages without a flush, if there is one, and the two processors.
pub record KernelState : Type 0 where
  pub processes : List Process
  pub memory : Memory
  pub store : Store
  pub late : Option ℕ
  pub first : ProcessorState
  pub second : ProcessorState

-- What contracts see of a kernel in Rust, by what they see of its memory and of its processors.
abbrev pub kernel_state : {T C : Type 0} → (tables : T → Memory) → (state : C → ProcessorState) → KernelOf T C → KernelState
kernel_state tables state kernel = record {
  processes = kernel.processes.items;
  memory = tables kernel.memory;
  store = pool_store kernel.pool;
  late = kernel.late;
  first = state kernel.first;
  second = state kernel.second;
}

-- The address space of a process: four levels, its root, and each frame at the place with its number.
abbrev pub space_of : Process → Layout
space_of process = direct identity_places process.root

-- The address spaces of the processes, in order.
abbrev pub process_spaces : List Process → List Layout
process_spaces processes = map space_of processes

-- The processes have address spaces that share the kernel's half, and one pool fits all. Each root has one PCID. Only pages of the
-- kernel's half have GLOBAL.
pub record AreProcesses (processes : List Process) (m : Memory) (store : Store) : Type 0 where
  pub spaces : AreSpaces is_kernels m store.serves store.frames (process_spaces processes)
  pub own_pcids : (a b : Process) → In processes a → In processes b → a.root ≡ b.root → a.pcid ≡ b.pcid
  pub globals : (a : Process) → In processes a → GlobalsBelow 4 is_kernels (paths (space_of a laid_in m))

-- The kernel of the model: four levels, one pool, and the upper half for all.
abbrev pub kernel_with : Store → Kernel
kernel_with store = record { levels = 4; take_back = store.take_back; serves = store.serves; shared = is_kernels }

-- The system of the model with this processor, while no call is under way.
abbrev pub with_processor : ProcessorState → Switching → Switching
with_processor now s = record s { root = now.root; pcid = now.pcid; cache = now.cached; under_way = [] }

-- What is due is a page of 4KiB, for the PCID that is late.
pub record IsLate (late : Option ℕ) (tag : Tag) (due : Due) : Type 0 where
  pub pcid : ℕ
  pub is_late : late ≡ Some pcid
  pub in_pcid : tag ≡ Of pcid
  pub path : List ℕ
  pub frame : ℕ
  pub is_page : due ≡ PageDue path frame
  pub small : length path ≡ 4

-- The processor and the memory came about by events that may happen: calls, loads of CR3, flushes, and what the processor cached.
-- A PCID has items of no other process than its own. Nothing has to be flushed but pages for the PCID that is late.
pub record ProcessRan (processes : List Process) (m : Memory) (store : Store) (late : Option ℕ) (now : ProcessorState) : Type 0 where
  pub system : Switching
  pub reached : IsReachedBySwitches (kernel_with store) identity_places m store.frames (process_spaces processes) (with_processor now system)
  pub loaded : (c r : ℕ) → now.loaded c ≡ Some r → system.holder c ≡ Some r
  pub own : (a : Process) → In processes a → (c : ℕ) → system.holder c ≡ Some a.root → c ≡ a.pcid
  pub due : (tag : Tag) (d : Due) → In (system.due tag) d → IsLate late tag d

-- The kernel runs its processes on both processors.
pub record KernelRuns (s : KernelState) : Type 0 where
  pub are : AreProcesses s.processes s.memory s.store
  pub first : ProcessRan s.processes s.memory s.store s.late s.first
  pub second : ProcessRan s.processes s.memory s.store s.late s.second

-- ---- mappings

-- The entry e at a path is present, and maps a page that has an address in the frame.
pub record MapsInto (path : List ℕ) (e frame : ℕ) : Type 0 where
  pub here : present e ≡ true
  pub page : maps_page (level_of 4 path) e ≡ true
  pub offset : ℕ
  pub low : offset < 4096
  pub inside : in_page 4 path (page_start (level_of 4 path) e) (frame + offset) ≡ true

-- The entry of a process at a path is present, and maps a page that has an address in the frame.
abbrev pub ProcessMaps : Memory → Process → (path : List ℕ) → (frame : ℕ) → Type 0
ProcessMaps m process path frame = MapsInto path (entry (paths (space_of process laid_in m)) path) frame

-- No process maps the frame.
abbrev pub FrameIsUnmapped : List Process → Memory → (frame : ℕ) → Type 0
FrameIsUnmapped processes m frame = (a : Process) → In processes a → (path : List ℕ) → ProcessMaps m a path frame → ⊥

-- At most one process maps the frame, in one page.
abbrev pub IsMappedOnce : List Process → Memory → (frame : ℕ) → Type 0
IsMappedOnce processes m frame = (a b : Process) → In processes a → In processes b → (path other : List ℕ)
    → ProcessMaps m a path frame → ProcessMaps m b other frame → (a.root ≡ b.root) × (path ≡ other)

-- All that processes map in the memory n they mapped in the memory m.
abbrev pub LessIsMapped : List Process → (m n : Memory) → Type 0
LessIsMapped processes m n = (a : Process) → In processes a → (path : List ℕ) (frame : ℕ) → ProcessMaps n a path frame → ProcessMaps m a path frame

-- No access on either processor goes to an address in the frame.
pub record IsUnreached (s : KernelState) (frame : ℕ) : Type 0 where
  pub first : NeverReaches s.memory s.first frame
  pub second : NeverReaches s.memory s.second frame

-- While nothing is late, no access goes to a frame that no process maps.
abbrev pub UnmappedIsUnreached : Type 0
UnmappedIsUnreached = (s : KernelState) → KernelRuns s → s.late ≡ None → (frame : ℕ) → FrameIsUnmapped s.processes s.memory frame → IsUnreached s frame

-- ---- what the kernel does

-- The frame in the reply to an accepted unmap of a 4KiB page.
abbrev pub unmapped_frame : Reply → Option ℕ
unmapped_frame (replies.Of4KiB (page_reply.Unmap (Ok done))) = Some done.0
unmapped_frame other = None

-- A call in the process's own half: it touches nothing of the kernel's half, makes no page GLOBAL, and maps no large page. What
-- it makes due is late.
pub record IsOwnCall (late : Option ℕ) (process : Process) (call : Call) : Type 0 where
  pub avoids : Avoids 4 is_kernels call
  pub not_global : GlobalIsShared 4 is_kernels call
  pub small : (q : List ℕ) → mapped_by 4 call ≡ Some q → length q ≡ 4
  pub due : (freed : List ℕ) (reply : machine.Reply) (d : Due) → In (flush_after 4 None freed call reply) d → IsLate late (Of process.pcid) d

-- The processor loaded CR3 for a process, and kept what it had cached with the PCID only if that was of this process.
pub record SwitchesTo (process : Process) (before now : ProcessorState) : Type 0 where
  pub keeps : Bool
  pub loads : LoadsCr3 process.root process.pcid keeps before now
  pub is_own : keeps ≡ true → before.loaded process.pcid ≡ Some process.root
