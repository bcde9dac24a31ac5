-- A memory over a borrowed slice of tables, each at the place with its index.
use Rattle.std.specs.Prelude.{ℕ, List, length, map}
use Rattle.std.specs.FinMap.{entries}
use Rattle.std.specs.List.{range_with_len}
use Rattle.x86_64_model.specs.Memory.{Memory}
use Rattle.x86_64_tables.specs.PhysMemory.{tables_at}

-- The memory that has the n-th of these tables, counted from 0, at place n.
abbrev pub numbered : List (List ℕ) → Memory
numbered tables = tables_at (range_with_len 0 (length tables)) tables

-- The tables of a memory, in increasing order of their places.
abbrev pub tables_in_order : Memory → List (List ℕ)
tables_in_order memory = map (λ e. e.1) (entries memory)
