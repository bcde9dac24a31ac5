use Rattle.std.proofs.Common.{◌≡◌, ◌≤◌, take}
use Rattle.x86_64_model.specs.Mappings.{every_right}
use Rattle.x86_64_mappings.specs.Summaries.{summary_of}
use Rattle.x86_64_mappings.specs.Wanted.{asked_of}
use Rattle.x86_64_mappings.specs.private.Known.{asking}
use Rattle.x86_64_mappings.specs.private.Merged.{of_bits}
use Rattle.x86_64_mappings.specs.private.Targets.{asked_on}
use Rattle.x86_64_mappings.proofs.summaries.table_summaries.small_pages_summary.Given as goal

-- the number and the bits are those of the wanted pages by the entries so far
abbrev pub invariant-loop-entry : goal.invariant-loop-entry
invariant-loop-entry g l =
    let asked = asked_of g.T.TableMemory.tables g.P.PageTableFrameMapping.places (asking l.query) in
    record {
      few : (l.count ≤ l.entry-index) × (l.count ≤ 512);
      sum : of_bits l.count l.some l.all ≡ summary_of (asked_on asked 1 0 every_right (take l.entry-index l.entries));
    }
