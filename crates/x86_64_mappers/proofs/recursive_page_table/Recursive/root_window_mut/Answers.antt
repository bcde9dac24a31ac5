use Rattle.std.proofs.Common.{[], sym, subst}
use Rattle.x86_64_mappers.specs.Reached.{IsReached}
use Rattle.x86_64_mappers.specs.Recursive.{recursive_at, window_with}
use Rattle.x86_64_mappers.proofs.Way.ReachedSteps.{here_first}
use Rattle.x86_64_mappers.proofs.recursive_page_table.Recursive.root_window_mut.Goals as goal

pub table_mut-requires-clause-reached : goal.table_mut-requires-clause-reached
table_mut-requires-clause-reached g c =
    let s = c.args.self.now in
    let root = g.A.WalkedTables.root s.active in
    let m = g.A.WalkedTables.memory s.active in
    let l = recursive_at g.L.LevelCount.LEVELS root (window_with root s.index s.self_flags.0) in
    subst (IsReached l m []) (sym c.cr3-root.ensures) (here_first l m [] c.requires).reached
