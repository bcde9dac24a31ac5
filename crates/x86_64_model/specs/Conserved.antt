-- Conservation of frames: the set of free and table frames stays the same, and each frame has one use.
use Rattle.std.specs.Prelude.{◌≡◌, ◌≢◌, ◌↔◌, ℕ, ◌≤◌, List, ◌++◌, length, Some}
use Rattle.x86_64_model.specs.Entry.{address}
use Rattle.x86_64_model.specs.PathMap.{PathMap, table_at}
use Rattle.x86_64_model.specs.Lists.{In, EachOnce}
use Rattle.x86_64_model.specs.Pool.{IsTable, IsOwn}

-- The number is the address of a 4KiB frame other than frame 0.
pub record IsFrame (f : ℕ) : Type 0 where
  pub aligned : address f ≡ f
  pub not_zero : f ≢ 0

-- No frame is free twice, holds two tables, or is both free and a table.
pub record OneEach (L root : ℕ) (paths : PathMap) (pool : List ℕ) : Type 0 where
  pub own_frames : (p q : List ℕ) (f : ℕ) → table_at L root paths p ≡ Some f → table_at L root paths q ≡ Some f → p ≡ q
  pub each_once : EachOnce pool
  pub no_table : (f : ℕ) → In pool f → IsTable L root paths f → ⊥

-- From one path map and pool to another, the set of free and table frames stays the same, and if each frame had one use before,
-- it has one use after.
pub record Conserves (L root : ℕ) (paths : PathMap) (pool : List ℕ) (paths' : PathMap) (pool' : List ℕ) : Type 0 where
  pub same_set : (f : ℕ) → IsOwn L root paths pool f ↔ IsOwn L root paths' pool' f
  pub one_each : OneEach L root paths pool → OneEach L root paths' pool'

-- The supply (the frames to hand out, in order) lost only frames from its front, and at most this many.
pub record Takes (supply rest : List ℕ) (most : ℕ) : Type 0 where
  pub taken : List ℕ
  pub first : supply ≡ taken ++ rest
  pub few : length taken ≤ most
