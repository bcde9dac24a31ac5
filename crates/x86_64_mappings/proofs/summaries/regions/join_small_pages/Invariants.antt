use Rattle.std.proofs.Common.{◌≡◌, ◌≤◌, ◌-◌, None, take}
use Rattle.x86_64_mappings.specs.Wanted.{Asked}
use Rattle.x86_64_mappings.specs.private.Joined.{Joins}
use Rattle.x86_64_mappings.specs.private.Targets.{asked_on}
use Rattle.x86_64_mappings.proofs.summaries.regions.join_small_pages.Given as goal

-- the pages by the entries so far are joined
abbrev pub invariant-loop-index : goal.invariant-loop-index
invariant-loop-index g l = record {
  within : l.index ≤ 512;
  joined : (asked : Asked) → asked.wanted ≡ None
      → Joins g.V.Visitor.Visits g.L.LevelCount.LEVELS (asked_on asked 1 l.start l.above (take l.index l.entries)) l.fn.joiner l.fn.visitor l.joiner l.visitor;
}

abbrev pub decreases-loop-index : goal.decreases-loop-index
decreases-loop-index g l = 512 - l.index
