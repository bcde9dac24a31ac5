use Rattle.std.proofs.Common.{◌≡◌, ◌<◌, ◌≤◌, ◌-◌, ◌%◌}
use Rattle.x86_64_mappers.specs.Layouts.{direct_at}
use Rattle.x86_64_live.specs.PageRanges.{HasNoPage}
use Rattle.x86_64_live.specs.private.RangeSteps.{IsOnWay, wanted_by}
use Rattle.x86_64_model.specs.Hierarchy.{◌laid_in◌, paths}
use Rattle.x86_64_live.proofs.ranges.search.next_page.Given as goal

-- there is no page before the cursor, which is on the way
abbrev pub invariant-loop-cursor : goal.invariant-loop-cursor
invariant-loop-cursor g l =
    let L = g.L.LevelCount.LEVELS in
    let M = paths (direct_at L (g.P.PageTableFrameMapping.places l.mapping) l.root laid_in g.T.TableMemory.tables l.memory) in
    (l.fn.from.position ≤ l.cursor.position) × (l.cursor.position % 4096 ≡ 0)
    × (l.cursor.position < l.end → IsOnWay L l.root M l.cursor.position l.cursor.level l.cursor.frame) × HasNoPage L (wanted_by l.wanted) M l.fn.from.position l.cursor.position

abbrev pub decreases-loop-cursor : goal.decreases-loop-cursor
decreases-loop-cursor g l = l.end - l.cursor.position
