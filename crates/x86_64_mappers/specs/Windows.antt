-- Windows: the pages at which tables are reached if an entry of the root names the root itself.
use Rattle.std.specs.Prelude.{◌≡◌, ◌<◌, ◌%◌, ◌++◌, ℕ, List, replicate, Some, true}
use Rattle.x86_64_model.specs.Arrivals.{leads}
use Rattle.x86_64_model.specs.Memory.{Words}
use Rattle.x86_64_model.specs.Position.{page_path}
use Rattle.x86_64_tables.specs.ActiveMemory.{walked_frame}
use Rattle.x86_64_tables.specs.SelfEntries.{has_self_entry}

-- The walk of a position through this number of levels arrives at the table that a path leads to. It does so if the root's word
-- at the recursive index is present, not huge and names the root, and each word on the path is present, not huge and in a table
-- that exists. All other words are arbitrary, even those of the table arrived at.
abbrev pub ShowsTable : (levels : ℕ) (recursive_index : ℕ) (path : List ℕ) (position : ℕ) → Type 0
ShowsTable levels r path p = (T : Words) (root frame : ℕ) → has_self_entry T root r ≡ true → leads T root path ≡ Some frame → walked_frame levels T root p ≡ Some frame

-- A page's walk shows the table that a path leads to, if the page's indices are some number of recursive indices followed by the
-- path. This holds for any number of levels.
abbrev pub WindowsShowTables : Type 0
WindowsShowTables = (levels r times : ℕ) (path : List ℕ) (page : ℕ) → 0 < levels → page % 4096 ≡ 0 → page_path levels page ≡ replicate times r ++ path → ShowsTable levels r path page
