-- Pools: lists of free frames, and what it means that a pool fits a hierarchy.
use Rattle.std.specs.Prelude.{◌≡◌, ◌⊎◌, ◌↔◌, ◌/◌, ◌&&◌, nat_lt, ℕ, Bool, true, List, [], ◌∷◌, Option, Some, IsSome}
use Rattle.x86_64_model.specs.Lists.{In, EachOnce}
use Rattle.x86_64_model.specs.Entry.{is_frame}
use Rattle.x86_64_model.specs.PathMap.{PathMap, table_at}
use Rattle.x86_64_model.specs.Memory.{Words}
use Rattle.x86_64_model.specs.Window.{Window, IsValidFor}

-- The frame holds a table of the hierarchy: some path leads to the table in it. The empty path leads to the root.
abbrev pub IsTable : (L root : ℕ) → PathMap → (frame : ℕ) → Type 0
IsTable L root paths frame = (q : List ℕ) × (table_at L root paths q ≡ Some frame)

-- The frame is in the pool of free frames, or holds a table of the hierarchy.
abbrev pub IsOwn : (L root : ℕ) → PathMap → (pool : List ℕ) → (frame : ℕ) → Type 0
IsOwn L root paths pool f = In pool f ⊎ IsTable L root paths f

-- Whether the number of a frame, its address divided by 4096, is between 1 and limit - 1.
abbrev pub serves_below : (limit : ℕ) → (frame : ℕ) → Bool
serves_below limit f = nat_lt 0 (f / 4096) && nat_lt (f / 4096) limit

-- The hierarchy is valid, and the pool fits it. The pool's frames are distinct and in the memory, and none of them is frame 0,
-- the root or a table. The pool serves them and the frame of every table but the root.
pub record Fits (L : ℕ) (window : Option Window) (tables : Words) (root : ℕ) (paths : PathMap) (serves : ℕ → Bool) (pool : List ℕ) : Type 0 where
  pub valid : IsValidFor L window tables root paths
  pub each_once : EachOnce pool
  pub in_memory : (f : ℕ) → In pool f → IsSome (tables f)
  pub are_frames : (f : ℕ) → In pool f → is_frame f ≡ true
  pub not_zero : In pool 0 → ⊥
  pub no_table : (f : ℕ) → In pool f → IsTable L root paths f → ⊥
  pub serves_pool : (f : ℕ) → In pool f → serves f ≡ true
  pub serves_tables : (i : ℕ) (q : List ℕ) (f : ℕ) → table_at L root paths (i ∷ q) ≡ Some f → serves f ≡ true

-- A pool takes frames back: `take_back held f` is the pool after frame f is returned. It has f, the frames held before and no
-- other, each once if f and those held before were there once.
pub record TakesBack (take_back : List ℕ → ℕ → List ℕ) : Type 0 where
  pub same_frames : (held : List ℕ) (f g : ℕ) → In (take_back held f) g ↔ In (f ∷ held) g
  pub each_once : (held : List ℕ) (f : ℕ) → EachOnce (f ∷ held) → EachOnce (take_back held f)

-- The frames that a pool holds after these frames are returned, one at a time.
abbrev pub with_returned : (take_back : List ℕ → ℕ → List ℕ) → (held back : List ℕ) → List ℕ
with_returned take_back held [] = held
with_returned take_back held (f ∷ fs) = with_returned take_back (take_back held f) fs
