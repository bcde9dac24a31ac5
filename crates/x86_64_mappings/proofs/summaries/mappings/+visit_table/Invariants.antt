use Rattle.std.proofs.Common.{◌≡◌, ◌+◌, ◌*◌, filter, take}
use Rattle.x86_64_model.specs.Position.{span as span_of}
use Rattle.x86_64_mappings.specs.Selections.{is_mapping_selected}
use Rattle.x86_64_mappings.specs.Wanted.{asked_of}
use Rattle.x86_64_mappings.specs.private.Targets.{asked_on, selected_in}
use Rattle.x86_64_mappings.proofs.summaries.mappings.+visit_table.Given as goal

abbrev pub decreases-visit_table : goal.decreases-visit_table
decreases-visit_table g l = l.table.now.level

-- what is selected of the entries so far is visited
abbrev pub invariant-loop-entry : goal.invariant-loop-entry
invariant-loop-entry g l =
    let asked = asked_of g.T.TableMemory.tables g.P.PageTableFrameMapping.places l.summaries in
    record {
      start : l.start ≡ l.table.start + l.entry-index * span_of l.table.level;
      visited : g.V.TableVisitor.Visits (selected_in g.L.LevelCount.LEVELS l.selection asked) l.fn.visitor l.visitor
          (filter (is_mapping_selected g.L.LevelCount.LEVELS l.selection) (asked_on asked l.table.level l.table.start l.table.above (take l.entry-index l.entries)));
    }
