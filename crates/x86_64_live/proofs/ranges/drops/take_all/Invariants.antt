use Rattle.std.proofs.Common.{◌≡◌, ◌-◌}
use Rattle.x86_64_mappers.specs.Layouts.{direct_at}
use Rattle.x86_64_live.proofs.RangeState.{ComesTo}
use Rattle.x86_64_live.specs.PageRanges.{HasNoPage}
use Rattle.x86_64_model.specs.Entry.{used}
use Rattle.x86_64_model.specs.Hierarchy.{◌laid_in◌, paths}
use Rattle.x86_64_live.proofs.ranges.drops.take_all.Given as goal

-- the words of the pages before the cursor have become 0; behind it nothing has changed
abbrev pub invariant-loop-spot : goal.invariant-loop-spot
invariant-loop-spot g l =
    let L = g.L.LevelCount.LEVELS in let places = g.P.PageTableFrameMapping.places l.mapping in
    let new = g.T.TableMemory.tables l.memory in let first = l.fn.range.start in
    ComesTo L places l.root (g.T.TableMemory.tables l.initial.memory) first l.end used (λ _. 0) l.cursor new
    × HasNoPage L used (paths (direct_at L places l.root laid_in new)) first l.cursor.position
    × (g.T.TableMemory.lent l.memory ≡ g.T.TableMemory.lent l.initial.memory)

abbrev pub decreases-loop-spot : goal.decreases-loop-spot
decreases-loop-spot g l = l.end - l.cursor.position
