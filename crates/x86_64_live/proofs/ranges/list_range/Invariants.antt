use Rattle.std.proofs.Common.{◌<◌, ◌≤◌, ◌-◌, length}
use Rattle.x86_64_mappers.specs.Layouts.{direct_at}
use Rattle.x86_64_live.specs.PageRanges.{ListsPages}
use Rattle.x86_64_live.specs.private.RangeSteps.{IsOnWay, IsWithin}
use Rattle.x86_64_model.specs.Entry.{used}
use Rattle.x86_64_model.specs.Hierarchy.{◌laid_in◌, paths}
use Rattle.x86_64_live.proofs.ranges.list_range.Given as goal

-- the pages before the cursor are in the array, and the cursor is on the way
abbrev pub invariant-loop-spot : goal.invariant-loop-spot
invariant-loop-spot g l =
    let L = g.L.LevelCount.LEVELS in
    let M = paths (direct_at L (g.P.PageTableFrameMapping.places l.mapping) l.root laid_in g.T.TableMemory.tables l.memory) in
    ListsPages L used M l.fn.range.start l.cursor.position l.count l.initial.pages l.pages
    × (l.count ≤ length l.pages) × IsWithin l.fn.range.start l.end l.cursor.position
    × (l.cursor.position < l.end → IsOnWay L l.root M l.cursor.position l.cursor.level l.cursor.frame)

abbrev pub decreases-loop-spot : goal.decreases-loop-spot
decreases-loop-spot g l = l.end - l.cursor.position
