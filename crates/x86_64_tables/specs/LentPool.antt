-- A pool of free frames in an array that its owner lends.
use Rattle.std.specs.Prelude.{ℕ, ◌+◌, ◌*◌, ◌%◌, ◌==◌, ◌≤◌, ◌||◌, Bool, cond, List, None, length, take, reverse}
use Rattle.std.specs.Borrow.{GName}
use Rattle.std.specs.List.{list_any}
use Rattle.x86_64_model.specs.Validity.{paths_of}
use Rattle.x86_64_model.specs.Memory.{Words}
use Rattle.x86_64_model.specs.Pool.{Fits}

-- The free frames in an array whose first `count` entries are their addresses, in the order in which they are handed out: the
-- last of these entries comes first.
abbrev pub stacked : (entries : List ℕ) → (count : ℕ) → List ℕ
stacked entries count = reverse (take count entries)

-- Whether a frame is in a list of frames.
abbrev pub is_in : (frames : List ℕ) → (frame : ℕ) → Bool
is_in frames f = list_any (λ g. g == f) frames

-- Whether a pool in a lent array serves a frame, whose address is a multiple of 4096: it serves its own frames. It also serves
-- two numbers that are no frames: they name the array and the count that are lent, so that the loans stay if what is served
-- stays.
abbrev pub served_by : (own : List ℕ) → (array count : GName) → (frame : ℕ) → Bool
served_by own array count f = cond (f % 4096 == 0) (is_in own f) (f == 4096 * array + 1 || f == 4096 * count + 2)

-- The words below the root form a valid hierarchy of L levels, and a pool of free frames fits it. A list of at most `capacity`
-- frames has all frames that the pool may ever hold: its frames now, and those of the tables below the root.
pub record FitsRoom (L : ℕ) (T : Words) (root capacity : ℕ) (pool : List ℕ) : Type 0 where
  pub own : List ℕ
  pub few : length own ≤ capacity
  pub fits : Fits L None T root (paths_of L T root) (is_in own) pool
