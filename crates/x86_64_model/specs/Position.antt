-- Positions: virtual addresses counted without the gap of the address space, for L levels of tables.
-- Intel SDM vol. 3A, "4-Level Paging and 5-Level Paging"; AMD APM vol. 2, "Canonical Address Form".
use Rattle.std.specs.Prelude.{zero, suc, ◌⊎◌, ℕ, ◌+◌, ◌*◌, ◌-◌, ◌/◌, ◌%◌, ◌^◌, ◌<◌, ◌≤◌, nat_lt, if◌then◌else◌, List, [], ◌∷◌}

-- The number of positions: 2^48 with four levels, 2^57 with five.
abbrev pub position_count : (L : ℕ) → ℕ
position_count L = 2 ^ (12 + 9 * L)

-- The number of positions in the lower half of the address space, where a position equals its address.
abbrev pub lower_half : (L : ℕ) → ℕ
lower_half L = 2 ^ (11 + 9 * L)

-- The raw value of the address at a position: its highest bit is copied to the bits above it.
abbrev pub raw : (L position : ℕ) → ℕ
raw L p = if nat_lt p (lower_half L) then p else p + (2 ^ 64 - position_count L)

-- The value is a canonical address with L levels: the bits above the highest bit of its position are copies of this bit.
abbrev pub IsCanonical : (L value : ℕ) → Type 0
IsCanonical L n = (n < lower_half L) ⊎ ((2 ^ 64 - lower_half L ≤ n) × (n < 2 ^ 64))

-- The number of positions that an entry of a level spans: 4KiB at level one, 2MiB at level two, 1GiB at level three, and so on.
abbrev pub span : (level : ℕ) → ℕ
span level = 2 ^ (12 + 9 * (level - 1))

-- The index of a level at a position: nine bits for each level, above the twelve bits of the offset in a 4KiB page.
unfoldable pub index : (level position : ℕ) → ℕ
index level p = p / span level % 512

-- The indices at a position, from a level down to level one.
unfoldable pub page_path : (level position : ℕ) → List ℕ
page_path zero p = []
page_path (suc n) p = index (suc n) p ∷ page_path n p
