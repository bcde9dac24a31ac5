-- A pool of frames: the free frames, in the order in which they are handed out, and the limit of their numbers.
use Rattle.std.specs.Prelude.{◌≡◌, ◌↔◌, ℕ, ◌*◌, ◌%◌, ◌<◌, Bool, true, false, List, length, slice_index_or}
use Rattle.x86_64_model.specs.Lists.{In, EachOnce}
use Rattle.x86_64_model.specs.Pool.{serves_below}

-- The free frames of a pool, in the order in which they are handed out, each with a number from 1 to `limit` - 1. A frame is
-- given by its start address, which is 4096 times its number.
pub record FreeFrames : Type 0 where
  pub frames : List ℕ
  pub limit : ℕ
  pub served : (f : ℕ) → In frames f → serves_below limit f ≡ true

-- For each n below the number of marks, mark n is set if and only if the frame with number n is among the frames. The frames are
-- distinct and their addresses are multiples of 4096.
pub record IsMarked (frames : List ℕ) (marks : List Bool) : Type 0 where
  pub aligned : (f : ℕ) → In frames f → f % 4096 ≡ 0
  pub each_once : EachOnce frames
  pub marked : (n : ℕ) → n < length marks → (slice_index_or marks n false ≡ true) ↔ In frames (n * 4096)
