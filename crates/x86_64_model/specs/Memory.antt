-- Memory: a finite map from places to tables of words, and which frames lie at which places.
-- A place is the index of a table in memory, and a frame is named by its address.
use Rattle.std.specs.Prelude.{◌≡◌, ℕ, Bool, true, cond, List, Option, Some, None, IsSome, option_map, get_or, set, ◌==◌, ◌/◌, nat_lt}
use Rattle.std.specs.Ordering.{nat_cmp}
use Rattle.std.specs.FinMap.{FinMap, get}
use Rattle.x86_64_model.specs.Entry.{is_frame}

-- A memory, as a finite map from places to tables of words. A place is the index of a table in memory.
abbrev pub Memory : Type 0
Memory = FinMap nat_cmp (List ℕ)

-- Which frames, named by their addresses, a memory covers, and the place of each (the index of its table in memory).
pub record Places : Type 0 where
  pub covers : ℕ → Bool
  pub place : ℕ → ℕ

-- Any two distinct covered frames have distinct places.
abbrev pub Distinct : Places → Type 0
Distinct places = (f g : ℕ) → places.covers f ≡ true → places.covers g ≡ true → places.place f ≡ places.place g → f ≡ g

-- The places are a frame mapping: only addresses of 4KiB frames are covered, and distinct ones have distinct places.
pub record IsMapping (places : Places) : Type 0 where
  pub frames : (f : ℕ) → places.covers f ≡ true → is_frame f ≡ true
  pub distinct : Distinct places

-- The identity mapping: each frame is covered, and its place is its frame number, its address divided by 4096.
abbrev pub identity_places : Places
identity_places = record { covers = is_frame; place = λ f. f / 4096 }

-- The words of memory by frames: the table in each frame that is covered and in the memory, None for any other frame.
abbrev pub Words : Type 0
Words = ℕ → Option (List ℕ)

-- Only addresses of 4KiB frames have tables.
abbrev pub OnlyFrames : Words → Type 0
OnlyFrames tables = (f : ℕ) → IsSome (tables f) → is_frame f ≡ true

-- The table in each frame of a memory whose frames are at these places.
abbrev pub words_of : Memory → Places → Words
words_of memory places frame = cond (places.covers frame) (get memory (places.place frame)) None

-- The word at an index of a table, 0 if there is no table or the index is past its last word.
abbrev pub word_in : Option (List ℕ) → (i : ℕ) → ℕ
word_in None i = 0
word_in (Some words) i = get_or words i 0

-- The word at an index of the table in a frame, 0 if there is no table, or if the index is past the last word or past 511.
unfoldable pub word : Words → (frame i : ℕ) → ℕ
word tables frame i = cond (nat_lt i 512) (word_in (tables frame) i) 0

-- The tables after the word at an index of a frame is set to a value.
unfoldable pub set_word : Words → (frame i value : ℕ) → Words
set_word tables frame i value = λ f. cond (f == frame) (option_map (λ words. set words i value) (tables f)) (tables f)
