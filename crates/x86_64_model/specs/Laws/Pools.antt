-- Laws of pools.
use Rattle.std.specs.Prelude.{ℕ, List, ◌∷◌, IsPermutation}
use Rattle.x86_64_model.specs.Pool.{TakesBack}

-- A pool that rearranges the returned frame and those it held takes frames back as the machine requires.
abbrev pub RearrangingTakesBack : Type 0
RearrangingTakesBack = (take_back : List ℕ → ℕ → List ℕ) → ((held : List ℕ) (f : ℕ) → IsPermutation (f ∷ held) (take_back held f)) → TakesBack take_back
