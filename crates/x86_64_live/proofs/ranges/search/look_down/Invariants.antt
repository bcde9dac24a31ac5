use Rattle.std.proofs.Common.{◌≡◌, ◌≤◌}
use Rattle.x86_64_live.specs.private.RangeSteps.{LooksDown}
use Rattle.x86_64_live.proofs.ranges.search.look_down.Given as goal

-- the spot is on the way to the same position
abbrev pub invariant-loop-below : goal.invariant-loop-below
invariant-loop-below g l = (l.spot.position ≡ l.from.position) × (1 ≤ l.spot.level) × (l.spot.level ≤ l.levels)
    × LooksDown l.levels (g.P.PageTableFrameMapping.places l.mapping) (g.T.TableMemory.tables l.memory) l.from l.spot

abbrev pub decreases-loop-below : goal.decreases-loop-below
decreases-loop-below g l = l.spot.level
