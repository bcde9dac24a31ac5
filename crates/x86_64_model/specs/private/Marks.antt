-- Marks: one flag for each place of the memory (the index of a table), set when the place's frame is visited. Frames can be
-- marked one after another if and only if each is visited once.
use Rattle.std.specs.Prelude.{ℕ, ◌≡◌, ◌↔◌, ◌<◌, IsSome, ◌==◌, ◌||◌, Bool, true, cond, List, [], ◌∷◌, get_or, set, Option, Some, None, option_and_then}
use Rattle.std.specs.List.{position}
use Rattle.std.specs.Ordering.{nat_cmp, eq_by_cmp}
use Rattle.std.specs.FinMap.{keys}
use Rattle.x86_64_model.specs.Memory.{Memory, Places, Words}

-- The number of a frame's table among the tables of a memory, in the order of their places. None if the frame isn't covered or
-- isn't in the memory.
unfoldable pub spot_of : Memory → Places → (frame : ℕ) → Option ℕ
spot_of memory places f = cond (places.covers f) (position (eq_by_cmp nat_cmp (places.place f)) (keys memory)) None

-- The spot of a frame that may be visited, which is the root or a frame that is served, None for any other frame.
abbrev pub slot_in : (spot : ℕ → Option ℕ) → (root : ℕ) → (serves : ℕ → Bool) → (frame : ℕ) → Option ℕ
slot_in spot root serves f = cond ((f == root) || serves f) (spot f) None

-- The frames that have a table, and no others, have spots, which are distinct and below the size.
pub record IsSpots (T : Words) (size : ℕ) (spot : ℕ → Option ℕ) : Type 0 where
  pub within : (f k : ℕ) → spot f ≡ Some k → k < size
  pub apart : (f g k : ℕ) → spot f ≡ Some k → spot g ≡ Some k → f ≡ g
  pub there : (f : ℕ) → IsSome (T f) ↔ IsSome (spot f)

-- The marks after a frame is visited. None if it may not be visited, or was before.
unfoldable pub mark_one : (slot : ℕ → Option ℕ) → List Bool → (frame : ℕ) → Option (List Bool)
mark_one slot marks f = option_and_then (λ k. cond (get_or marks k true) None (Some (set marks k true))) (slot f)

-- The marks after these frames are visited, one after another. None if one may not be visited, or was before.
unfoldable pub mark_all : (slot : ℕ → Option ℕ) → List Bool → (frames : List ℕ) → Option (List Bool)
mark_all slot marks [] = Some marks
mark_all slot marks (f ∷ fs) = option_and_then (λ m. mark_all slot m fs) (mark_one slot marks f)
