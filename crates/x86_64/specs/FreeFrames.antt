-- The words of free frames after a list of calls: unchanged, or 0 if a clean up returned the frame.
use Rattle.std.specs.Prelude.{◌≡◌, ℕ, List, [], ◌∷◌, ◌++◌}
use Rattle.x86_64_model.specs.Call.{Call}
use Rattle.x86_64_model.specs.Flushing.{freed_by}
use Rattle.x86_64_model.specs.Layout.{Layout}
use Rattle.x86_64_model.specs.Hierarchy.{◌laid_in◌, words}
use Rattle.x86_64_model.specs.Lists.{In}
use Rattle.x86_64_model.specs.Machine.{Machine, State, step}
use Rattle.x86_64_model.specs.Memory.{Memory, word}

-- The frames that a list of calls returns to the pool, in order.
abbrev pub all_back : Machine → State → List Call → List ℕ
all_back machine state [] = []
all_back machine state (call ∷ calls) = freed_by machine.levels state call ++ all_back machine (step machine state call).state calls

-- Calls led from the memory m and a pool to the memory n and the rest of the pool, and returned the frames in back. A frame that
-- is free afterwards was returned and has only zero words, or was free before and kept its words.
pub record KeepsFree (layout : Layout) (m : Memory) (pool back : List ℕ) (n : Memory) (rest : List ℕ) : Type 0 where
  pub came_back : (f : ℕ) → In rest f → In back f → (i : ℕ) → word (words (layout laid_in n)) f i ≡ 0
  pub was_free : (f : ℕ) → In rest f → (In back f → ⊥) → In pool f
  pub same_words : (f : ℕ) → In rest f → (In back f → ⊥) → words (layout laid_in n) f ≡ words (layout laid_in m) f
