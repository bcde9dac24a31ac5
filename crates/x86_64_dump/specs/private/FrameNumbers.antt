-- FrameNumbers: frames that a dump has, frames by their numbers, and memories with tables at some places. A place is the index of a
-- table in memory.
use Rattle.std.specs.Prelude.{◌≡◌, ◌==◌, ◌/◌, ◌*◌, ◌<◌, ◌^◌, ℕ, Bool, true, cond, List, Vec, All, Option, None}
use Rattle.std.specs.List.{list_any}
use Rattle.std.specs.FinMap.{get}
use Rattle.x86_64_model.specs.Memory.{Memory, Words}

-- Whether the number of a frame, its address divided by 4096, is one of some numbers.
abbrev pub has_number : (numbers : List ℕ) → (frame : ℕ) → Bool
has_number numbers f = list_any (λ n. f / 4096 == n) numbers

-- All of these are numbers of frames: 4096 times each of them is below 2^52.
abbrev pub AreFrameNumbers : (numbers : List ℕ) → Type 0
AreFrameNumbers numbers = All (λ n. n * 4096 < 2 ^ 52) numbers

-- The memory has at each of these places the table that `tables` has there, and at other places none.
abbrev pub HoldsFor : (places : List ℕ) → (tables : ℕ → Option (List ℕ)) → Memory → Type 0
HoldsFor places tables memory = (place : ℕ) → get memory place ≡ cond (list_any (λ n. place == n) places) (tables place) None

-- The words of W in the frame with a number.
abbrev pub words_numbered : Words → (number : ℕ) → Option (List ℕ)
words_numbered W n = W (n * 4096)

-- The test `has` is true of each of these frames.
abbrev pub HasAll : (has : ℕ → Bool) → (frames : List ℕ) → Type 0
HasAll has frames = All (λ f. has f ≡ true) frames

-- The test `has` is true of each frame of these levels.
abbrev pub AreAllHeld : {A : Type 0} → (has : ℕ → Bool) → (levels : List (Vec ℕ A)) → Type 0
AreAllHeld has levels = All (λ level. HasAll has level.items) levels

-- The test `has` is true of each frame with one of these numbers.
abbrev pub AreHeldBy : (has : ℕ → Bool) → (numbers : List ℕ) → Type 0
AreHeldBy has numbers = HasAll (λ n. has (n * 4096)) numbers
