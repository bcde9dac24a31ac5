-- The levels of page tables as numbers.
use Rattle.std.specs.Prelude.{◌≡◌, ◌⊎◌, ℕ}
use Rattle.x86_64_addr.specs.declared.index.PageTableLevel.{PageTableLevel}
use Rattle.x86_64_addr.specs.declared.index.PageTableLevel.TheVariants.{One, Two, Three, Four}

-- The number of a level of page tables: one for the tables whose entries map 4KiB pages, and one more for each level above.
abbrev pub level_number : PageTableLevel → ℕ
level_number One = 1
level_number Two = 2
level_number Three = 3
level_number Four = 4

-- The number of levels of page tables is four or five.
abbrev pub IsLevelCount : (levels : ℕ) → Type 0
IsLevelCount levels = (levels ≡ 4) ⊎ (levels ≡ 5)
