use Rattle.std.proofs.Common.{refl, sym, ap, ◌∙◌}
use Rattle.std.specs.Option.{option_copied_mut, unwrap_or}
use Rattle.x86_64_mappers.specs.Recursive.{window_with}
use Rattle.x86_64_mappers.proofs.Memory.Lent.{lent_some}
use Rattle.x86_64_mappers.proofs.Window.Windows.{window_walks, window_table}
use Rattle.x86_64_mappers.proofs.recursive_page_table.RecursiveTableAccess.table_mut.Goals as goal

pub unwrap-requires : goal.unwrap-requires
unwrap-requires g c =
    let s = c.args.self.now in
    let root = g.A.WalkedTables.root s.active in
    lent_some c.table_mut.result _ (c.table_mut.ensures.value
    ∙ window_table g.L.LevelCount.LEVELS (g.A.WalkedTables.memory s.active) root (window_with root s.index s.self_flags.0) c.args.path.now c.args._frame c.requires.reached c.position-position.result (rw c.position-position.ensures.value c.window-addr.ensures.table)) c.requires.reached.there

pub returns : goal.returns
returns g c =
    let s = c.args.self.now in
    let m = g.A.WalkedTables.memory s.active in
    let root = g.A.WalkedTables.root s.active in
    let w = window_with root s.index s.self_flags.0 in (
      (
        refl,
        λ table. ap (λ o. record s { active = g.A.WalkedTables.with_table s.active (unwrap_or o 0) table })
            (window_walks g.L.LevelCount.LEVELS m root w c.args.path.now c.args._frame c.requires.reached c.position-position.result (rw c.position-position.ensures.value c.window-addr.ensures.table)),
      ),
      record {
        lends = tt;
        value = sym (window_table g.L.LevelCount.LEVELS m root w c.args.path.now c.args._frame c.requires.reached c.position-position.result (rw c.position-position.ensures.value c.window-addr.ensures.table)) ∙ sym c.table_mut.ensures.value ∙ ap option_copied_mut c.unwrap.ensures;
      },
    )
