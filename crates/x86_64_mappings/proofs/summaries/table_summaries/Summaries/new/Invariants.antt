use Rattle.std.proofs.Common.{◌≡◌, vec_len}
use Rattle.x86_64_mappings.specs.Wanted.{asked_of}
use Rattle.x86_64_mappings.specs.private.Known.{AreLevels, asking}
use Rattle.x86_64_mappings.proofs.summaries.table_summaries.Summaries.new.Given as goal

abbrev pub invariant-loop-level_frames : goal.invariant-loop-level_frames
invariant-loop-level_frames g l = record {
  known : AreLevels (asked_of g.T.TableMemory.tables g.P.PageTableFrameMapping.places (asking l.query)) l.levels.items;
  many : vec_len l.levels ≡ l.level_frames-index;
}
