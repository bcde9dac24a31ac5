use Rattle.std.proofs.Common.{◌+◌, length}
use Rattle.x86_64_mappings.specs.Wanted.{asked_of}
use Rattle.x86_64_mappings.specs.private.Known.{IsLevel, asking}
use Rattle.x86_64_mappings.proofs.summaries.table_summaries.summarize.Given as goal

abbrev pub invariant-loop-frame : goal.invariant-loop-frame
invariant-loop-frame g l =
    IsLevel (asked_of g.T.TableMemory.tables g.P.PageTableFrameMapping.places (asking l.query)) (length l.below + 1) l.level
