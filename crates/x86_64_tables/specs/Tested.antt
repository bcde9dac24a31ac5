-- What the tests of hierarchies decide of the words below a root.
use Rattle.std.specs.Prelude.{ℕ, Option}
use Rattle.x86_64_model.specs.Validity.{paths_of}
use Rattle.x86_64_model.specs.Memory.{Words}
use Rattle.x86_64_model.specs.Pool.{Fits, serves_below}
use Rattle.x86_64_model.specs.Window.{IsValidFor, outside_window}
use Rattle.x86_64_tables.specs.FramePool.{FreeFrames}
use Rattle.x86_64_tables.specs.SelfEntries.{window_in}

-- The words below the root form a valid hierarchy of L levels: each table, including the root, has a frame of its own that is in
-- the memory, only the root may be in frame 0, and no entry above level three is huge. If there is a recursive index, the root's word
-- at this index is present, isn't huge and names the root, and the hierarchy is valid with this word read as 0.
abbrev pub ValidWith : (L : ℕ) → Words → (root : ℕ) → (recursive : Option ℕ) → Type 0
ValidWith L words root recursive = let window = window_in words root recursive in
    IsValidFor L window words root (paths_of L (outside_window window root words) root)

-- The words below the root form a valid hierarchy of L levels, with the recursive index if there is one, and a pool of free frames
-- fits it: its frames are distinct, in the memory, not frame 0 and hold no table, and it may take back the frame of each table but
-- the root (the frame's number is from 1 to the pool's limit - 1).
abbrev pub FitsWith : (L : ℕ) → Words → (root : ℕ) → (recursive : Option ℕ) → (pool : FreeFrames) → Type 0
FitsWith L words root recursive pool = let window = window_in words root recursive in
    Fits L window words root (paths_of L (outside_window window root words) root) (serves_below pool.limit) pool.frames
