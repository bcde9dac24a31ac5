use Rattle.std.proofs.Common.{◌-◌, arith}
use Rattle.x86_64_tables.specs.Views.{words_in}
use Rattle.x86_64_tables.proofs.AlikeSteps.{alike_seen}
use Rattle.x86_64_tables.proofs.phys_memory.hierarchy_view.HierarchyView.is_alike.Goals as goal

pub returns : goal.returns
returns g c =
    let one = c.args.self.now in
    let other = c.args.other.now in
    let L = g.L.LevelCount.LEVELS in
    let some = g.L.LevelCount.at_least_four in
    let told = alike_seen (words_in g.T.TableMemory.tables g.P.PageTableFrameMapping.places one) (words_in g.U.TableMemory.tables g.Q.PageTableFrameMapping.places other)
    one.root other.root one.recursive other.recursive (L - 1) L (omega (arith, some)) in
    let from = rw c.levels_below.ensures at c.alike_from.ensures in
    (λ is. told.0 (from.0 is), λ alike. from.1 (told.1 alike))
