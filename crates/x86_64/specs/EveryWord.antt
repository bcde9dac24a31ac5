-- The result of a list of calls determines every word of the memory.
use Rattle.std.specs.Prelude.{◌≡◌, ℕ, Bool, List}
use Rattle.x86_64_model.specs.Layout.{Layout}
use Rattle.x86_64_model.specs.Hierarchy.{◌laid_in◌, paths, words}
use Rattle.x86_64_model.specs.Store.{KeepsPool}
use Rattle.x86_64_model.specs.Memory.{Memory, Words, IsMapping, word}
use Rattle.x86_64.specs.FreeFrames.{KeepsFree}

-- Both have equal words in every frame. In a frame without a table all words count as 0.
abbrev pub SameWords : Words → Words → Type 0
SameWords T U = (f i : ℕ) → word T f i ≡ word U f i

-- What is known after calls that led from the memory m and a pool to the memory n and the rest of the pool, and returned the
-- frames in back. The rest fits, only words of tables and of frames that were free changed, and each free frame has zeros or the
-- words that it had.
pub record IsKnownAfter (layout : Layout) (m : Memory) (pool back : List ℕ) (n : Memory) (rest : List ℕ) : Type 0 where
  pub serves : ℕ → Bool
  pub keeps : KeepsPool layout serves m pool n rest
  pub free : KeepsFree layout m pool back n rest

-- If two memories had equal words and the same frames were returned, equal path maps at the end mean that all words are equal.
abbrev pub EveryWordIsDecided : Type 0
EveryWordIsDecided = (layout : Layout) → IsMapping layout.places → (m k n o : Memory) (pool back rest : List ℕ)
    → SameWords (words (layout laid_in m)) (words (layout laid_in k)) → IsKnownAfter layout m pool back n rest → IsKnownAfter layout k pool back o rest → paths (layout laid_in n) ≡ paths (layout laid_in o)
    → SameWords (words (layout laid_in n)) (words (layout laid_in o))
