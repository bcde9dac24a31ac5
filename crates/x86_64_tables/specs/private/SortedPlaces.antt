-- Places in the order of their numbers, of which those at the front have no gap between them.
use Rattle.std.specs.Prelude.{◌≡◌, ℕ, ◌+◌, ◌^◌, ◌<◌, ◌≤◌, List, length, slice_index}

-- The first `run` places are the consecutive numbers from `first` on, all below 2^64. There may be more places.
pub record HasRun (places : List ℕ) (first run : ℕ) : Type 0 where
  pub within : run ≤ length places
  pub follow : (i : ℕ) → i < run → slice_index places i ≡ first + i
  pub fits : first + run ≤ 2 ^ 64

-- The places are consecutive numbers from 0 on, all below 2^64.
abbrev pub IsDense : (places : List ℕ) → Type 0
IsDense places = HasRun places 0 (length places)
