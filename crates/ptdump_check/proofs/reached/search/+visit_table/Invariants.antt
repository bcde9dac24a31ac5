use Rattle.std.proofs.Common.{◌≡◌, ◌+◌, ◌*◌, take}
use Rattle.x86_64_mappings.specs.private.Targets.{asked_on}
use Rattle.x86_64_model.specs.Position.{span as span_of}
use Rattle.ptdump_check.specs.private.Reaching.{searched, sought, TakesFound}
use Rattle.ptdump_check.proofs.reached.search.+visit_table.Given as goal

abbrev pub decreases-visit_table : goal.decreases-visit_table
decreases-visit_table g l = l.table.now.level

-- the search went through the mappings by the entries so far
abbrev pub invariant-loop-entry : goal.invariant-loop-entry
invariant-loop-entry g l =
    record {
      start : l.start ≡ l.table.start + l.entry-index * span_of l.table.level;
      taken : TakesFound g.L.LevelCount.LEVELS l.search l.fn.found l.found
          (sought l.search (asked_on (searched l.search) l.table.level l.table.start l.table.above (take l.entry-index l.entries)));
    }
