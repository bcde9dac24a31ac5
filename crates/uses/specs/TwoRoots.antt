-- Two hierarchies that share nothing.
use Rattle.std.specs.Prelude.{ℕ, Bool, false, List, [], ◌∷◌}
use Rattle.x86_64_mappers.specs.Layouts.{direct}
use Rattle.x86_64_model.specs.Memory.{Memory, identity_places}
use Rattle.x86_64_model.specs.Spaces.{AreSpaces}

-- The hierarchies with these roots are address spaces that share nothing, with one pool.
abbrev pub AreTwoRoots : (first second : ℕ) → Memory → (serves : ℕ → Bool) → (pool : List ℕ) → Type 0
AreTwoRoots first second m serves pool = AreSpaces (λ i. false) m serves pool (direct identity_places first ∷ direct identity_places second ∷ [])
