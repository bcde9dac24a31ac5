use Rattle.std.proofs.Common.{◌≡◌, ◌+◌, ◌++◌}
use Rattle.x86_64_tables.specs.FlushRecorder.{page_items}
use Rattle.x86_64_tables.proofs.tokens.flush.record_each.Given as goal

-- the items of the pages so far are recorded
abbrev pub invariant-loop-k : goal.invariant-loop-k
invariant-loop-k g l = record {
  items : l.recorder.items ≡ l.fn.recorder.items ++ page_items g.L.LevelCount.LEVELS g.S.PageSize.SIZE l.page l.k;
  room : l.recorder.room + l.k ≡ l.fn.recorder.room;
}
