-- Several processors that read and write words of one memory in turn, each word at once, as aligned words
-- are read and written. Intel SDM vol. 3A, "Guaranteed Atomic Operations".
use Rattle.std.specs.Prelude.{◌≡◌, ◌⊎◌, ℕ, ◌==◌, List, [], ◌∷◌, filter, Option, Some, None}
use Rattle.x86_64_model.specs.Memory.{Words, word, set_word}

-- What a processor does to a word of a frame: it reads it, which shows it a value, it writes a value, or it
-- exchanges the word that it sees for another at once (an exchange, or a compare and exchange that
-- succeeds).
pub data Touch : Type 0 where
  Reads : (frame index seen : ℕ) → Touch
  Writes : (frame index value : ℕ) → Touch
  Exchanges : (frame index seen value : ℕ) → Touch

-- The frame of the word that is read, written or exchanged.
abbrev pub touched_frame : Touch → ℕ
touched_frame (Reads f i seen) = f
touched_frame (Writes f i w) = f
touched_frame (Exchanges f i seen w) = f

-- The index, in the table of its frame, of the word that is read, written or exchanged.
abbrev pub index_of : Touch → ℕ
index_of (Reads f i seen) = i
index_of (Writes f i w) = i
index_of (Exchanges f i seen w) = i

-- A read or an exchange sees the value that the word has. A write sees nothing.
abbrev pub Sees : Words → Touch → Type 0
Sees tables (Reads f i seen) = word tables f i ≡ seen
Sees tables (Writes f i w) = Unit {0}
Sees tables (Exchanges f i seen w) = word tables f i ≡ seen

-- The words of memory after one word is read, written or exchanged.
abbrev pub after_touch : Words → Touch → Words
after_touch tables (Reads f i seen) = tables
after_touch tables (Writes f i w) = set_word tables f i w
after_touch tables (Exchanges f i seen w) = set_word tables f i w

-- A turn of a processor, given by its number: what it does to one word.
pub record Turn : Type 0 where
  pub processor : ℕ
  pub touch : Touch

-- Each turn of a list, in order, sees what its word holds after the turns before it.
abbrev pub AllSee : Words → List Turn → Type 0
AllSee tables [] = Unit {0}
AllSee tables (t ∷ ts) = Sees tables t.touch × AllSee (after_touch tables t.touch) ts

-- The words of memory after a list of turns, in order.
abbrev pub after_turns : Words → List Turn → Words
after_turns tables [] = tables
after_turns tables (t ∷ ts) = after_turns (after_touch tables t.touch) ts

-- The turns of one processor in a list, in order.
abbrev pub turns_of : (processor : ℕ) → List Turn → List Turn
turns_of k turns = filter (λ t. t.processor == k) turns

-- The word is only read, neither written nor exchanged.
abbrev pub IsRead : Touch → Type 0
IsRead (Reads f i seen) = Unit {0}
IsRead (Writes f i w) = ⊥
IsRead (Exchanges f i seen w) = ⊥

-- The turn touches a word that its processor owns, or only reads a word that no processor owns, such as one
-- of a shared table.
abbrev pub KeepsApart : (owner : (frame i : ℕ) → Option ℕ) → Turn → Type 0
KeepsApart owner t = (owner (touched_frame t.touch) (index_of t.touch) ≡ Some t.processor)
    ⊎ (IsRead t.touch × (owner (touched_frame t.touch) (index_of t.touch) ≡ None))
