use Rattle.std.proofs.Common.{◌≡◌, ◌<◌, fold, length}
use Rattle.x86_64_mappers.specs.RangeChanges.{frames_done}
use Rattle.x86_64_mappers.specs.private.PageCalls.{unmap_says}
use Rattle.x86_64_mappers.specs.private.RangeChangeSteps.{with_results, replies_said}
use Rattle.x86_64_mappers.proofs.walk.change_range.unmap_entries.Given as goal

-- the entries so far are changed, and their frames taken
abbrev pub invariant-loop-k : goal.invariant-loop-k
invariant-loop-k g l = record {
  words : l.table ≡ with_results (unmap_says g.S.PageSize.LEVEL) l.first l.fn.table l.k;
  taken : l.sink ≡ fold g.K.FrameSink.with_frame l.fn.sink (frames_done (replies_said (unmap_says g.S.PageSize.LEVEL) l.first l.fn.table l.k));
  size : 0 < l.k → length l.fn.table ≡ 512;
}
