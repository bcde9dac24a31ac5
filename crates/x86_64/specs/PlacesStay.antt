-- The places of a memory after calls (a place is the index of a table in memory).
use Rattle.std.specs.Prelude.{◌↔◌, ℕ, Bool, List, IsSome}
use Rattle.std.specs.FinMap.{get}
use Rattle.x86_64_model.specs.Layout.{Layout}
use Rattle.x86_64_model.specs.Memory.{Memory}
use Rattle.x86_64_mappers.specs.Offsets.{OffsetFits}
use Rattle.x86_64_model.specs.Hierarchy.{◌laid_in◌, PoolFits}
use Rattle.x86_64_model.specs.Store.{KeepsPool}

-- If a pool fits a hierarchy, what calls on it keep is enough for the memory to have the same places as before.
abbrev pub PlacesStay : Type 0
PlacesStay = (layout : Layout) (serves : ℕ → Bool) (m n : Memory) (pool rest : List ℕ) → PoolFits (layout laid_in m) serves pool → KeepsPool layout serves m pool n rest
    → (place : ℕ) → IsSome (get n place) ↔ IsSome (get m place)

-- If a pool fits a hierarchy, an offset that fits its memory also fits the memory that calls on it leave.
abbrev pub OffsetsFitStill : Type 0
OffsetsFitStill = (layout : Layout) (serves : ℕ → Bool) (m n : Memory) (pool rest : List ℕ) → PoolFits (layout laid_in m) serves pool → KeepsPool layout serves m pool n rest
    → (levels offset : ℕ) → OffsetFits levels m offset → OffsetFits levels n offset
