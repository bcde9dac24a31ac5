-- Sizes: numbers of bytes as text, in units of 1024 bytes and its powers.
use Rattle.std.specs.Prelude.{ℕ, ◌==◌, ◌/◌, ◌%◌, ◌^◌, ◌++◌, ◌||◌, ◌&&◌, not, nat_le, if◌then◌else◌, Bool, true, false, List, codes, decimal}

-- A unit of sizes: its number of bytes, and its name.
pub record SizeUnit : Type 0 where
  pub bytes : ℕ
  pub name : List ℕ

-- The largest of TiB, GiB and MiB that passes a test of its number of bytes, or KiB if none does.
abbrev pub largest_unit : (passes : ℕ → Bool) → SizeUnit
largest_unit passes =
    if passes (2 ^ 40) then record { bytes = 2 ^ 40; name = codes "TiB" }
    else (if passes (2 ^ 30) then record { bytes = 2 ^ 30; name = codes "GiB" }
    else (if passes (2 ^ 20) then record { bytes = 2 ^ 20; name = codes "MiB" }
    else record { bytes = 2 ^ 10; name = codes "KiB" }))

-- Whether a unit is at most a number of bytes and, if it is to be exact, divides it.
abbrev pub serves : (exact : Bool) → (bytes unit : ℕ) → Bool
serves exact bytes unit = nat_le unit bytes && (not exact || bytes % unit == 0)

-- The largest of KiB, MiB, GiB and TiB that isn't larger than a number of bytes, or KiB if there is none.
abbrev pub unit_of : (bytes : ℕ) → SizeUnit
unit_of bytes = largest_unit (serves false bytes)

-- The largest of KiB, MiB, GiB and TiB that divides a number of bytes. For 0 bytes, or if none of them divides the number, it is KiB.
abbrev pub exact_unit : (bytes : ℕ) → SizeUnit
exact_unit bytes = largest_unit (serves true bytes)

-- A number of bytes as text, in the largest of KiB, MiB, GiB and TiB that divides it. A number that none of them divides is rounded
-- down to KiB, and 0 bytes are 0KiB.
abbrev pub size_text : (bytes : ℕ) → List ℕ
size_text bytes = decimal (bytes / (exact_unit bytes).bytes) ++ (exact_unit bytes).name
