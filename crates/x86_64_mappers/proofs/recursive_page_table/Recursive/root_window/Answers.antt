use Rattle.std.proofs.Common.{[], sym, subst}
use Rattle.x86_64_mappers.specs.Reached.{IsReached}
use Rattle.x86_64_mappers.specs.Recursive.{recursive_at, window_with}
use Rattle.x86_64_mappers.proofs.Way.ReachedSteps.{here_first}
use Rattle.x86_64_mappers.proofs.recursive_page_table.Recursive.root_window.Goals as goal

pub table-requires-clause-reached : goal.table-requires-clause-reached
table-requires-clause-reached g c =
    let s = c.args.self.now in
    let root = g.A.WalkedTables.root s.active in
    let m = g.A.WalkedTables.memory s.active in
    let l = recursive_at g.L.LevelCount.LEVELS root (window_with root s.index s.self_flags.0) in
    subst (IsReached l m []) (sym c.cr3.ensures) (here_first l m [] c.requires).reached
