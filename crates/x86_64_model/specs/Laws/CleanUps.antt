-- Laws of clean ups.
use Rattle.std.specs.Prelude.{◌≡◌, ℕ, false, List, [], Option}
use Rattle.x86_64_model.specs.Position.{page_path}
use Rattle.x86_64_model.specs.PathMap.{PathMap}
use Rattle.x86_64_model.specs.Memory.{Words}
use Rattle.x86_64_model.specs.Validity.{Holds}
use Rattle.x86_64_model.specs.Window.{Window, begins_with, entry_at, IsValidFor}
use Rattle.x86_64_model.specs.Translation.{translate}
use Rattle.x86_64_model.specs.CleanUp.{clean_up}
use Rattle.x86_64_model.specs.Pool.{TakesBack, with_returned}
use Rattle.x86_64_model.specs.Conserved.{Conserves}

-- A clean up conserves frames, wherever the pool puts those that return: the set of free and table frames stays the same, and if
-- each frame had one use before, it has one use after.
abbrev pub CleanUpConserves : Type 0
CleanUpConserves = (L : ℕ) (T : Words) (root : ℕ) (M : PathMap) → Holds L T root M → (take_back : List ℕ → ℕ → List ℕ) → TakesBack take_back → (low high : ℕ) (pool : List ℕ)
    → Conserves L root M pool (clean_up L M low high).paths (with_returned take_back pool (clean_up L M low high).back)

-- A clean up changes no answer of `translate` outside the recursive window. A position is the number of an address counted without
-- the non-canonical gap.
abbrev pub CleanUpKeepsAnswers : Type 0
CleanUpKeepsAnswers = (L : ℕ) (window : Option Window) (T : Words) (root : ℕ) (M : PathMap) → IsValidFor L window T root M → (low high p : ℕ)
    → begins_with window (page_path L p) ≡ false → translate L (entry_at window (clean_up L M low high).paths) p ≡ translate L (entry_at window M) p

-- A second clean up of the same positions changes nothing and frees nothing.
abbrev pub CleanUpsOnce : Type 0
CleanUpsOnce = (L : ℕ) (window : Option Window) (T : Words) (root : ℕ) (M : PathMap) → IsValidFor L window T root M → (low high : ℕ)
    → clean_up L (clean_up L M low high).paths low high ≡ record { paths = (clean_up L M low high).paths; back = [] }
