use Rattle.std.proofs.Common.{◌≡◌, ◌+◌, length, take}
use Rattle.x86_64_mappings.specs.Summaries.{summary_of}
use Rattle.x86_64_mappings.specs.Wanted.{asked_of}
use Rattle.x86_64_mappings.specs.private.Known.{asking}
use Rattle.x86_64_mappings.specs.private.Targets.{asked_on}
use Rattle.x86_64_mappings.proofs.summaries.table_summaries.table_summary.Given as goal
use Rattle.x86_64_model.specs.Mappings.{every_right}

-- the sum is the summary of the mappings by the entries so far
abbrev pub invariant-loop-entry : goal.invariant-loop-entry
invariant-loop-entry g l =
    let asked = asked_of g.T.TableMemory.tables g.P.PageTableFrameMapping.places (asking l.query) in
    l.sum ≡ summary_of (asked_on asked (length l.below + 1) 0 every_right (take l.entry-index l.entries))
