use Rattle.std.proofs.Common.{sym, ap, ◌∙◌}
use Rattle.std.specs.Option.{option_copied}
use Rattle.x86_64_mappers.specs.Recursive.{window_with}
use Rattle.x86_64_mappers.proofs.Memory.Lent.{copied_some}
use Rattle.x86_64_mappers.proofs.Window.Windows.{window_table}
use Rattle.x86_64_mappers.proofs.recursive_page_table.RecursiveTableAccess.table.Goals as goal

pub unwrap-requires : goal.unwrap-requires
unwrap-requires g c =
    let s = c.args.self.now in
    let root = g.A.WalkedTables.root s.active in
    copied_some c.table.result _ (c.table.ensures ∙ window_table g.L.LevelCount.LEVELS (g.A.WalkedTables.memory s.active) root (window_with root s.index s.self_flags.0) c.args.path.now c.args._frame c.requires.reached c.position.result (rw c.position.ensures.value c.window.ensures.table))
    c.requires.reached.there

pub returns : goal.returns
returns g c =
    let s = c.args.self.now in
    let root = g.A.WalkedTables.root s.active in
    sym (window_table g.L.LevelCount.LEVELS (g.A.WalkedTables.memory s.active) root (window_with root s.index s.self_flags.0) c.args.path.now c.args._frame c.requires.reached c.position.result (rw c.position.ensures.value c.window.ensures.table))
    ∙ sym c.table.ensures ∙ ap option_copied c.unwrap.ensures
