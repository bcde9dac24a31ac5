-- What a mapper's steps do to a memory, one table at a time. m is the memory before, n the memory after.
use Rattle.std.specs.Prelude.{◌≡◌, ◌⊎◌, ℕ, true, false, List, [], ◌∷◌, length, set, Some, IsSome, bit_or, Result, Ok, Err}
use Rattle.std.specs.FinMap.{insert}
use Rattle.x86_64_model.specs.Entry.{used, huge, address}
use Rattle.x86_64_model.specs.Memory.{Memory, Places, words_of, word}
use Rattle.x86_64_model.specs.Refusal.{Refusal, PageNotMapped, ParentEntryHugePage, InvalidFrameAddress, PageAlreadyMapped, FrameAllocationFailed, Answer, Done, Refused}
use Rattle.x86_64_tables.specs.PageTable.{zero_words}

-- Word i of the table in a frame of a memory, or 0 if there is no such word.
abbrev pub word_in_frame : Places → Memory → (frame i : ℕ) → ℕ
word_in_frame places m f i = word (words_of m places) f i

-- The frame is covered by the places, and its table is in the memory.
abbrev pub IsThere : Places → Memory → (frame : ℕ) → Type 0
IsThere places m f = IsSome (words_of m places f)

-- Word i of the table in the frame f was set to w, which led from the memory m to n.
pub record IsSet (places : Places) (m : Memory) (f i w : ℕ) (n : Memory) : Type 0 where
  pub table : List ℕ
  pub is : words_of m places f ≡ Some table
  pub long : length table ≡ 512
  pub after : n ≡ insert m (places.place f) (set table i w)

-- All words of the table in the frame f were set to 0, which led from the memory m to n.
pub record IsZeroed (places : Places) (m : Memory) (f : ℕ) (n : Memory) : Type 0 where
  pub there : IsThere places m f
  pub after : n ≡ insert m (places.place f) zero_words

-- Flags were added to word i of the table in the frame f, which is used. This led from the memory m to n.
pub record IsEntryMarked (places : Places) (m : Memory) (f i more : ℕ) (n : Memory) : Type 0 where
  pub is_used : used (word_in_frame places m f i) ≡ true
  pub is_set : IsSet places m f i (bit_or (word_in_frame places m f i) more) n

-- The unused word i of the table in the frame f was made to name the first frame of the supply, with these flags, after the table
-- in that frame was cleared. This led from the memory m to n, and the rest of the supply is left.
pub record IsTaken (places : Places) (m : Memory) (s : List ℕ) (f i flags g : ℕ) (n : Memory) (rest : List ℕ) : Type 0 where
  pub is_unused : used (word_in_frame places m f i) ≡ false
  pub first : s ≡ g ∷ rest
  pub middle : Memory
  pub is_cleared : IsZeroed places m g middle
  pub is_set : IsSet places middle f i (bit_or g flags) n

-- By the result of a map's step: word i of the table in the frame f names a table, which it named before or which was created in
-- the first frame of the supply, or the step was refused. A used word gets the flags `more`, a new one `more` and `added`, and the
-- rest of the supply is left.
abbrev pub IsTableMade : Places → (more added : ℕ) → Memory → (supply : List ℕ) → (f i : ℕ) → Result ℕ Refusal → Memory → (rest : List ℕ) → Type 0
IsTableMade places more added m s f i (Ok g) n rest =
    (IsEntryMarked places m f i more n × (huge (word_in_frame places m f i) ≡ false) × (g ≡ address (word_in_frame places m f i)) × (rest ≡ s))
    ⊎ IsTaken places m s f i (bit_or more added) g n rest
IsTableMade places more added m s f i (Err ParentEntryHugePage) n rest = IsEntryMarked places m f i more n × (huge (word_in_frame places m f i) ≡ true) × (rest ≡ s)
IsTableMade places more added m s f i (Err FrameAllocationFailed) n rest = (used (word_in_frame places m f i) ≡ false) × (s ≡ []) × (n ≡ m) × (rest ≡ [])
IsTableMade places more added m s f i (Err PageNotMapped) n rest = ⊥
IsTableMade places more added m s f i (Err (InvalidFrameAddress a)) n rest = ⊥
IsTableMade places more added m s f i (Err (PageAlreadyMapped g)) n rest = ⊥

-- The unused word i of the table in the frame f became the entry w of a page, or the word is used, nothing changed and the map to
-- the given frame was refused.
abbrev pub IsLeafSet : Places → Memory → (f i w frame : ℕ) → Answer → Memory → Type 0
IsLeafSet places m f i w frame (Done g) n = (used (word_in_frame places m f i) ≡ false) × (g ≡ frame) × IsSet places m f i w n
IsLeafSet places m f i w frame (Refused (PageAlreadyMapped g)) n = (used (word_in_frame places m f i) ≡ true) × (g ≡ frame) × (n ≡ m)
IsLeafSet places m f i w frame (Refused PageNotMapped) n = ⊥
IsLeafSet places m f i w frame (Refused ParentEntryHugePage) n = ⊥
IsLeafSet places m f i w frame (Refused (InvalidFrameAddress a)) n = ⊥
IsLeafSet places m f i w frame (Refused FrameAllocationFailed) n = ⊥
