-- Clean ups that return the frames of removed tables to a deallocator.
use Rattle.std.specs.Prelude.{◌≡◌, ℕ, Bool, List}
use Rattle.x86_64_model.specs.Hierarchy.{Hierarchy, MayCleanUp, CleansUp}
use Rattle.x86_64_model.specs.Store.{Store}

-- What the ghost members of a `FrameDeallocator` say of its values.
abbrev pub DeallocatorMembers : Type 0 → Type 0
DeallocatorMembers Self = record { serves : Self → ℕ → Bool; held : Self → List ℕ; take_back : List ℕ → ℕ → List ℕ }

-- The store that a value of a type is, by the ghost members of its `FrameDeallocator`: its free frames are those that it holds.
abbrev pub deallocator_store : {Self : Type 0} → DeallocatorMembers Self → Self → Store
deallocator_store members value = record { frames = members.held value; serves = members.serves value; take_back = members.take_back }

-- A clean up that returns frames to the store may be made: the hierarchy is valid, and the store serves the frame of each table but
-- the root and doesn't hold it.
abbrev pub MayCleanUpInto : {Lent : Type 0} → Hierarchy Lent → Store → Type 0
MayCleanUpInto h store = MayCleanUp h store.serves store.frames

-- The effect of a clean up of the positions from low to high that returns frames to the store. It is `rest` then, and serves the
-- same frames.
pub record CleansUpInto {Lent : Type 0} (h : Hierarchy Lent) (store : Store) (low high : ℕ) (after : Hierarchy Lent) (rest : Store) : Type 0 where
  pub cleans : CleansUp h store.take_back store.frames low high after rest.frames
  pub serves : rest.serves ≡ store.serves
