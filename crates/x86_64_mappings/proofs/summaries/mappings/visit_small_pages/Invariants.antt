use Rattle.std.proofs.Common.{◌≡◌, ◌+◌, ◌*◌, List, filter, take}
use Rattle.x86_64_mappings.specs.Selections.{is_mapping_selected}
use Rattle.x86_64_mappings.specs.Wanted.{asked_of}
use Rattle.x86_64_mappings.specs.private.Known.{asking}
use Rattle.x86_64_mappings.specs.private.Targets.{asked_on}
use Rattle.x86_64_model.specs.Mappings.{Mapping}
use Rattle.x86_64_mappings.specs.declared.summaries.reached_table.ReachedTable.{ReachedTable}
use Rattle.x86_64_mappings.proofs.summaries.mappings.visit_small_pages.Given as goal

-- what is selected of the entries so far is visited
abbrev pub invariant-loop-entry : goal.invariant-loop-entry
invariant-loop-entry g l =
    let asked = asked_of g.T.TableMemory.tables g.P.PageTableFrameMapping.places (asking l.query) in
    record {
      start : l.start ≡ l.fn.start + l.entry-index * 4096;
      visited : (visited : ReachedTable → List Mapping) → g.V.TableVisitor.Visits visited l.fn.visitor l.visitor
          (filter (is_mapping_selected g.L.LevelCount.LEVELS l.selection) (asked_on asked 1 l.fn.start l.above (take l.entry-index l.entries)));
    }
