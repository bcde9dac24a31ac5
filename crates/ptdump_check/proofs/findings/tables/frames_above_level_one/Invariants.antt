use Rattle.std.proofs.Common.{◌≡◌, filter, map, nat_lt, take}
use Rattle.ptdump_check.proofs.findings.tables.frames_above_level_one.Given as goal

-- the frames of the tables so far that are above level one
abbrev pub invariant-loop-table : goal.invariant-loop-table
invariant-loop-table l = l.frames.items ≡ map (λ t. t.frame) (filter (λ t. nat_lt 1 t.level) (take l.table-index l.tables))
