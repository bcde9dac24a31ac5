-- What operations on ranges tell.
use Rattle.std.specs.Prelude.{◌≡◌, ℕ, Bool, true, false, List, Option, Some, None}
use Rattle.x86_64_model.specs.Entry.{no_address}
use Rattle.x86_64_model.specs.Hierarchy.{Hierarchy}
use Rattle.x86_64_model.specs.Store.{Store}
use Rattle.x86_64_mappers.specs.Ranges.{MapRange}
use Rattle.x86_64_c.specs.Ranges.{Maps, MayMapPages, Updates}
use Rattle.x86_64_c.specs.Status.{ok, not_allowed}
use Rattle.x86_64_c.specs.declared.ranges.Mapped.{Mapped}
use Rattle.x86_64_c.specs.private.Pools.{TakesStep}

-- Whether there is no number.
abbrev pub is_without_number : Option ℕ → Bool
is_without_number None = true
is_without_number (Some n) = false

-- Maps of so many pages of a range are refused as not allowed, without a number, or they are allowed and made, and the number of
-- mapped pages is told.
abbrev pub TellsMaps : (h : Hierarchy (Unit {0})) (pool : Store) (r : MapRange) (count : ℕ) (after : Hierarchy (Unit {0})) (rest : Store) → Mapped → Type 0
TellsMaps h pool r count after rest mapped = ((MayMapPages h r count → ⊥) → (mapped.status ≡ not_allowed) × (mapped.done ≡ None))
    × (MayMapPages h r count → (n : ℕ) × (mapped.done ≡ Some n) × Maps h pool r count after rest mapped.status n)

-- So many pages of a range are mapped with the pool in an array, or the maps are refused. If no number of mapped pages is told, no
-- table, no entry of the array and not the number of free frames changed.
abbrev pub MapsInPool : (own : List ℕ) (r : MapRange) (count : ℕ) (h : Hierarchy (Unit {0})) (array : List ℕ) (free : ℕ) (after : Hierarchy (Unit {0})) (left : List ℕ) (number : ℕ) → Mapped → Type 0
MapsInPool own r count h array free after left number mapped = TakesStep own h array free (λ pool rest. TellsMaps h pool r count after rest mapped) (is_without_number mapped.done) after left number

-- Changes of flags of so many pages are refused as not allowed and change nothing, or they are allowed and made, and the number of
-- changed entries is told.
abbrev pub TellsUpdates : (h : Hierarchy (Unit {0})) (level page flags count : ℕ) (after : Hierarchy (Unit {0})) → Option ℕ → Type 0
TellsUpdates h level page given count after changed = (no_address given ≡ false → (changed ≡ None) × (after ≡ h))
    × (no_address given ≡ true → (n : ℕ) × (changed ≡ Some n) × Updates h level page given count after ok n)
