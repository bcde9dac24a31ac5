-- What is left of a pool after a space is made or given up.
use Rattle.std.specs.Prelude.{◌≡◌, ℕ, Bool, true, false, List, Option, Some, None, Result, Ok, Err}
use Rattle.x86_64_model.specs.Hierarchy.{Hierarchy}
use Rattle.x86_64_spaces.specs.declared.giving_up.GiveUpError.{GiveUpError}
use Rattle.x86_64_spaces.specs.SpaceCalls.{TakesFirst, IsMade, IsGivenUp, IsReason}
use Rattle.x86_64_c.specs.AddressSpaces.{space_at}
use Rattle.x86_64_c.specs.private.Pools.{Leaves}

-- Whether a result is an error.
abbrev pub failed : {X E : Type 0} → Result X E → Bool
failed (Ok x) = false
failed (Err e) = true

-- A root was made of the first free frame of a pool in an array, or the pool is empty and nothing changed.
abbrev pub MakesRoot : (own : List ℕ) (shared : ℕ → Bool) → Hierarchy (Unit {0}) → (array : List ℕ) (free : ℕ) (after : Hierarchy (Unit {0})) (left : List ℕ) (count : ℕ) → (root : Option ℕ) → Type 0
MakesRoot own shared h array free after left count None = (free ≡ 0) × (after.memory ≡ h.memory) × (left ≡ array) × (count ≡ free)
MakesRoot own shared h array free after left count (Some root) =
    Leaves own array free left count (λ pool rest. TakesFirst pool (Some root) rest × IsMade shared h pool (space_at root) after.memory rest)

-- A root was given up to a pool in an array, or there was a reason against it and nothing changed.
abbrev pub GivesUpRoot : (own : List ℕ) (shared : ℕ → Bool) → Hierarchy (Unit {0}) → (array : List ℕ) (free : ℕ) (after : Hierarchy (Unit {0})) (left : List ℕ) (count : ℕ) → Result (Unit {0}) GiveUpError → Type 0
GivesUpRoot own shared h array free after left count (Ok x) = Leaves own array free left count (λ pool rest. IsGivenUp shared h pool after.memory rest)
GivesUpRoot own shared h array free after left count (Err why) = IsReason shared h why × (after.memory ≡ h.memory) × (left ≡ array) × (count ≡ free)
