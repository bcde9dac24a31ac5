use Rattle.std.proofs.Common.{◌≡◌}
use Rattle.x86_64_mappers.specs.private.RangeSteps.{with_leaves}
use Rattle.x86_64_tables.specs.PageTableFlags.{bits_of}
use Rattle.x86_64_mappers.proofs.walk.map_range.write_entries.Given as goal

-- the entries so far are written
abbrev pub invariant-loop-k : goal.invariant-loop-k
invariant-loop-k g l = l.table ≡ with_leaves g.S.PageSize.LEVEL l.first l.frame (bits_of l.fn.flags) l.fn.table l.k
