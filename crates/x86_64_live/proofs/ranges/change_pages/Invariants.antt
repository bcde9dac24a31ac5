use Rattle.std.proofs.Common.{◌≡◌, ◌≤◌, ◌-◌, length}
use Rattle.x86_64_mappers.specs.Layouts.{direct_at}
use Rattle.x86_64_live.proofs.RangeState.{ComesTo}
use Rattle.x86_64_live.specs.PageRanges.{ListsPages}
use Rattle.x86_64_live.specs.private.RangeSteps.{wanted_by}
use Rattle.x86_64_model.specs.Hierarchy.{◌laid_in◌, paths}
use Rattle.x86_64_model.specs.Live.{by_masks}
use Rattle.x86_64_live.proofs.ranges.change_pages.Given as goal

-- the pages before the cursor are in the array, and their words have changed; behind it nothing has
abbrev pub invariant-loop-spot : goal.invariant-loop-spot
invariant-loop-spot g l =
    let L = g.L.LevelCount.LEVELS in let places = g.P.PageTableFrameMapping.places l.mapping in let wanted = wanted_by l.wanted in
    let old = g.T.TableMemory.tables l.initial.memory in let first = l.fn.range.start in
    ListsPages L wanted (paths (direct_at L places l.root laid_in old)) first l.cursor.position l.count l.initial.pages l.pages × (l.count ≤ length l.pages)
    × ComesTo L places l.root old first l.end wanted (by_masks l.masks.keep l.masks.set) l.cursor (g.T.TableMemory.tables l.memory)
    × (g.T.TableMemory.lent l.memory ≡ g.T.TableMemory.lent l.initial.memory)

abbrev pub decreases-loop-spot : goal.decreases-loop-spot
decreases-loop-spot g l = l.end - l.cursor.position
