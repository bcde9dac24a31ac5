-- A store of frames: it hands frames out for new tables, and takes the frames of tables back that are gone.
use Rattle.std.specs.Prelude.{◌↔◌, ◌≡◌, ℕ, Bool, List, ◌∷◌}
use Rattle.x86_64_model.specs.Hierarchy.{◌laid_in◌, Hierarchy, PoolFits, Owns, KeepsOthers}
use Rattle.x86_64_model.specs.Layout.{Layout}
use Rattle.x86_64_model.specs.Memory.{Memory}

-- A store of frames: its free frames, in the order in which it hands them out, the frames that it serves (may hand out and take
-- back), and the free frames after it takes one back.
pub record Store : Type 0 where
  pub frames : List ℕ
  pub serves : (frame : ℕ) → Bool
  pub take_back : (frames : List ℕ) → (frame : ℕ) → List ℕ

-- The ghost members of a `FrameStore`: the free frames that a value holds, the frames held after one is taken back, whether a
-- value serves a frame, and its supply (the frames to hand out, in order).
abbrev pub StoreMembers : Type 0 → Type 0
StoreMembers Self = record { held : Self → List ℕ; take_back : List ℕ → ℕ → List ℕ; serves : Self → ℕ → Bool; supply : Self → List ℕ }

-- The store that a value of a type is, by the ghost members of its `FrameStore`.
abbrev pub store_of : {Self : Type 0} → StoreMembers Self → Self → Store
store_of members value = record { frames = members.supply value; serves = members.serves value; take_back = members.take_back }

-- The free frames of a pool that puts a frame that comes back at the front.
abbrev pub put_first : (frames : List ℕ) → (frame : ℕ) → List ℕ
put_first frames frame = frame ∷ frames

-- The hierarchy is valid, and the frames of the store fit it: they are distinct, in the memory, and neither 0 nor in use as a
-- table, and the store serves them and the frame of each table but the root.
abbrev pub StoreFits : {Lent : Type 0} → Hierarchy Lent → Store → Type 0
StoreFits h store = PoolFits h store.serves store.frames

-- Calls led from the memory m and a pool to the memory n and the rest of the pool. The rest fits the hierarchy again, free frames
-- and table frames together are the same set as before, and no word changed outside the root, the tables and the frames that were
-- free before.
pub record KeepsPool (layout : Layout) (serves : ℕ → Bool) (m : Memory) (pool : List ℕ) (n : Memory) (rest : List ℕ) : Type 0 where
  pub fits : PoolFits (layout laid_in n) serves rest
  pub conserved : (frame : ℕ) → Owns (layout laid_in m) pool frame ↔ Owns (layout laid_in n) rest frame
  pub others : KeepsOthers (Owns (layout laid_in m) pool) (layout laid_in m) (layout laid_in n)

-- What calls keep: the rest of the store fits the hierarchy again, and serves the same frames. Free frames and frames of tables
-- together are the same set as before, and no word changed outside the root, the tables and the frames that were free before.
-- The layout stays, and what was lent.
pub record Keeps {Lent : Type 0} (h : Hierarchy Lent) (store : Store) (after : Hierarchy Lent) (rest : Store) : Type 0 where
  pub keeps : KeepsPool h.layout store.serves h.memory store.frames after.memory rest.frames
  pub serves : rest.serves ≡ store.serves
  pub layout : after.layout ≡ h.layout
  pub lent : after.lent ≡ h.lent
