use Rattle.std.proofs.Common.{◌≡◌, ◌<◌, ◌≤◌, length}
use Rattle.x86_64_mappers.specs.RangeChanges.{frames_done}
use Rattle.x86_64_mappers.specs.private.PageCalls.{update_says}
use Rattle.x86_64_mappers.specs.private.RangeChangeSteps.{replies_said, with_results}
use Rattle.x86_64_tables.specs.PageTableFlags.{bits_of}
use Rattle.x86_64_mappers.proofs.walk.change_range.update_entries.Given as goal

-- the entries so far are changed and counted
abbrev pub invariant-loop-k : goal.invariant-loop-k
invariant-loop-k g l = record {
  words : l.table ≡ with_results (update_says g.S.PageSize.LEVEL (bits_of l.flags)) l.first l.fn.table l.k;
  changed : l.changed ≡ length (frames_done (replies_said (update_says g.S.PageSize.LEVEL (bits_of l.flags)) l.first l.fn.table l.k));
  few : l.changed ≤ l.k;
  size : 0 < l.k → length l.fn.table ≡ 512;
}
