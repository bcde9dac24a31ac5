-- Processes of a kernel: address spaces that share the upper half, which is the kernel's.
use Rattle.std.specs.Prelude.{◌≡◌, ℕ, ◌&&◌, nat_le, nat_lt, Bool, if◌then◌else◌, List, [], ◌∷◌, ◌++◌}
use Rattle.x86_64_model.specs.Call.{Call, MapTo, Unmap, CleanUp}
use Rattle.x86_64_model.specs.Laws.Spaces.{Led}
use Rattle.x86_64_model.specs.Layout.{Layout}
use Rattle.x86_64_model.specs.Lists.{In}
use Rattle.x86_64_model.specs.Hierarchy.{◌laid_in◌, Hierarchy, Owns, paths}
use Rattle.x86_64_model.specs.Memory.{Memory}
use Rattle.x86_64_model.specs.Position.{index}
use Rattle.x86_64_model.specs.Spaces.{AreSpaces}
use Rattle.x86_64_model.specs.Store.{Store, KeepsPool}
use Rattle.x86_64_spaces.specs.SpaceLayouts.{HasSharedAlone}
use Rattle.x86_64.specs.Pairs.{put_first}
use Rattle.uses.specs.SpacesBeside.{OtherSpacesStay}

-- Whether an index of level four is one of the kernel's half.
abbrev pub is_kernels : (index : ℕ) → Bool
is_kernels i = nat_le 256 i && nat_lt i 512

-- All of these address spaces keep their path maps from the memory m to the memory n.
abbrev pub AllStay : (spaces : List Layout) → (m n : Memory) → Type 0
AllStay spaces m n = (space : Layout) → In spaces space → paths (space laid_in n) ≡ paths (space laid_in m)

-- A process was started: the memory of the kernel's hierarchy became that of the process's, too, and the rest of the store is left.
pub record ProcessIsStarted {Lent : Type 0} (kernel : Hierarchy Lent) (store : Store) (process : Hierarchy Lent) (rest : List ℕ) : Type 0 where
  -- The first frame of the store became the root.
  pub taken : store.frames ≡ process.layout.root ∷ rest
  -- Nothing is mapped in the process's own half.
  pub empty : HasSharedAlone is_kernels process.layout process.memory
  -- It is one more of any address spaces of which the kernel's is one, and these keep their path maps.
  pub others : (spaces : List Layout) → In spaces kernel.layout → AreSpaces is_kernels kernel.memory store.serves store.frames spaces
      → AreSpaces is_kernels process.memory store.serves rest (process.layout ∷ spaces) × AllStay spaces kernel.memory process.memory

-- A process executed calls, from a store on. It is `after` then, and the rest of the store is left.
pub record IsServed {Lent : Type 0} (process : Hierarchy Lent) (store : Store) (calls : List Call) (after : Hierarchy Lent) (rest : List ℕ) : Type 0 where
  -- Path map and free frames are the machine's.
  pub state : Led process.layout put_first process.memory store.frames calls after.memory rest
  -- The process owns the same frames with the rest as it did with the store, and the rest fits it. No other words change.
  pub keeps : KeepsPool process.layout store.serves process.memory store.frames after.memory rest
  -- Whatever other processes there are, all are address spaces again, and the others keep their path maps.
  pub others : (spaces : List Layout) → In spaces process.layout → AreSpaces is_kernels process.memory store.serves store.frames spaces
      → AreSpaces is_kernels after.memory store.serves rest spaces × OtherSpacesStay spaces process.layout process.memory after.memory

-- The call on a page alone, or no call if the page is in the kernel's half.
abbrev pub if_own : (page : ℕ) → Call → List Call
if_own page call = if is_kernels (index 4 page) then [] else call ∷ []

-- The call that maps a page to a frame, if that isn't in the kernel's half.
abbrev pub own_map : (page frame flags : ℕ) → List Call
own_map page frame given = if_own page (MapTo 1 page frame given)

-- The call that unmaps a page, if that isn't in the kernel's half.
abbrev pub own_unmap : (page : ℕ) → List Call
own_unmap page = if_own page (Unmap 1 page)

-- The calls that unmap all pages but those in the kernel's half.
abbrev pub unmap_calls : (pages : List ℕ) → List Call
unmap_calls [] = []
unmap_calls (page ∷ pages) = own_unmap page ++ unmap_calls pages

-- A clean up of the lower half.
abbrev pub lower_clean_up : Call
lower_clean_up = CleanUp 0 0x7fff_ffff_ffff

-- The calls that end a process: all these pages but those in the kernel's half are unmapped, and then the lower half is cleaned up.
abbrev pub ending : (pages : List ℕ) → List Call
ending pages = unmap_calls pages ++ lower_clean_up ∷ []

-- The root has a used entry in the process's own half.
abbrev pub IsUsed : Layout → Memory → Type 0
IsUsed process m = HasSharedAlone is_kernels process m → ⊥

-- The process executed calls, and some entry of its own half is still used.
abbrev pub GoesOn : {Lent : Type 0} → (process : Hierarchy Lent) → Store → List Call → (after : Hierarchy Lent) → (rest : List ℕ) → Type 0
GoesOn process store calls after rest = IsServed process store calls after rest × IsUsed process.layout after.memory

-- A process was ended. Its memory is n then, and the rest of the store is left.
pub record IsEnded {Lent : Type 0} (process : Hierarchy Lent) (store : Store) (n : Memory) (rest : List ℕ) : Type 0 where
  -- Whatever other processes there are, they are address spaces without it, and keep their path maps.
  pub others : (spaces : List Layout) → (In spaces process.layout → ⊥) → AreSpaces is_kernels process.memory store.serves store.frames (process.layout ∷ spaces)
      → AreSpaces is_kernels n store.serves rest spaces × AllStay spaces process.memory n
  -- No frame is lost: what the process owned with the store, each other one owns with the rest.
  pub none_lost : (spaces : List Layout) (other : Layout) → In spaces other → (In spaces process.layout → ⊥)
      → AreSpaces is_kernels process.memory store.serves store.frames (process.layout ∷ spaces)
      → (f : ℕ) → Owns process store.frames f → Owns (other laid_in n) rest f
