-- The levels of page tables as numbers, with 5-level paging.
use Rattle.std.specs.Prelude.{ℕ}
use Rattle.x86_64_addr.specs.declared.index.level57.PageTableLevel57.{PageTableLevel57}
use Rattle.x86_64_addr.specs.declared.index.level57.PageTableLevel57.TheVariants.{One, Two, Three, Four, Five}

-- The number of a level of page tables, of which there are five: one for the tables whose entries map 4KiB pages, and one more
-- for each level above.
abbrev pub level_number_57 : PageTableLevel57 → ℕ
level_number_57 One = 1
level_number_57 Two = 2
level_number_57 Three = 3
level_number_57 Four = 4
level_number_57 Five = 5
