-- Placed mappings: the mappings of a table, as seen from the tables above it.
use Rattle.std.specs.Prelude.{ℕ, ◌+◌}
use Rattle.x86_64_model.specs.Mappings.{Rights, Mapping}
use Rattle.x86_64_tables.specs.Rights.{both}

-- A mapping of a table as it is below a root: the table's span starts at the position `start`, and the words above the table grant
-- rights r.
abbrev pub placed : (start : ℕ) → Rights → Mapping → Mapping
placed s r m = record { start = s + m.start; size = m.size; frame = m.frame; flags = m.flags; rights = both r m.rights }
