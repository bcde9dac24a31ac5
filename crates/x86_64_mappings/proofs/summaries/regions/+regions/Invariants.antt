use Rattle.std.proofs.Common.{◌≡◌, ◌+◌, ◌*◌, take}
use Rattle.x86_64_model.specs.Position.{span}
use Rattle.x86_64_mappings.specs.Wanted.{asked_of}
use Rattle.x86_64_mappings.specs.private.Joined.{Joins}
use Rattle.x86_64_mappings.specs.private.Targets.{asked_on}
use Rattle.x86_64_mappings.proofs.summaries.regions.+regions.Given as goal

abbrev pub decreases-join_below : goal.decreases-join_below
decreases-join_below g l = 2 * l.table.now.level + 1

abbrev pub decreases-join_table : goal.decreases-join_table
decreases-join_table g l = 2 * l.table.now.level

-- the entries so far are joined
abbrev pub invariant-join_table-loop-entry : goal.invariant-join_table-loop-entry
invariant-join_table-loop-entry g l =
    let asked = asked_of g.T.TableMemory.tables g.P.PageTableFrameMapping.places l.summaries in
    record {
      start : l.start ≡ l.table.start + l.entry-index * span l.table.level;
      joined : Joins g.V.Visitor.Visits g.L.LevelCount.LEVELS (asked_on asked l.table.level l.table.start l.table.above (take l.entry-index l.entries))
          l.fn.joiner l.fn.visitor l.joiner l.visitor;
    }
