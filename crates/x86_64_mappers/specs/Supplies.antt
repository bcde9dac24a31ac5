-- Allocators as single values, and maps that take the frames of new tables from them.
use Rattle.std.specs.Prelude.{◌≡◌, ℕ, Bool, List}
use Rattle.x86_64_model.specs.Call.{Call}
use Rattle.x86_64_model.specs.Hierarchy.{Hierarchy, DoesMap}
use Rattle.x86_64_model.specs.Refusal.{Answer}

-- What an allocator is: the frames that it can hand out, in order, and those that it serves (may hand out and take back).
pub record Supply : Type 0 where
  pub frames : List ℕ
  pub serves : (frame : ℕ) → Bool

-- What the ghost members of a `FrameAllocator` say of its values.
abbrev pub AllocatorMembers : Type 0 → Type 0
AllocatorMembers Self = record { serves : Self → ℕ → Bool; supply : Self → List ℕ }

-- The supply that a value of a type is, by the ghost members of its `FrameAllocator`.
abbrev pub supply_of : {Self : Type 0} → AllocatorMembers Self → Self → Supply
supply_of members value = record { frames = members.supply value; serves = members.serves value }

-- The effect of a map that takes the frames of new tables from a supply. It is `rest` then, and serves the same frames.
pub record MapsFrom {Lent : Type 0} (h : Hierarchy Lent) (supply : Supply) (call : Call) (answer : Answer) (after : Hierarchy Lent) (rest : Supply) : Type 0 where
  pub map : DoesMap h supply.frames call answer after rest.frames
  pub serves : rest.serves ≡ supply.serves
