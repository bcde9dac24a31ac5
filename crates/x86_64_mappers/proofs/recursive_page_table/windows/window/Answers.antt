use Rattle.std.proofs.Common.{◌-◌, ◌%◌, length, ap, ◌∙◌, arith}
use Rattle.std.proofs.Math.Nat.{mod-eq_of_lt}
use Rattle.x86_64_model.specs.Position.{page_path}
use Rattle.x86_64_mappers.proofs.Window.Windows.{windows_show_tables}
use Rattle.x86_64_mappers.proofs.recursive_page_table.windows.window.Goals as goal

pub returns-clause-table : goal.returns-clause-table
returns-clause-table g c =
    let L = g.L.LevelCount.LEVELS in
    let some = g.L.LevelCount.at_least_four in
    let at = c.new_truncate.ensures ∙ mod-eq_of_lt c.window_position.ensures.inside in
    windows_show_tables L c.args.index (L - length c.args.path.now) c.args.path.now c.new_truncate.result (omega (arith, some))
    (ap (λ p. p % 4096) at ∙ c.window_position.ensures.aligned) (ap (page_path L) at ∙ c.window_position.ensures.path)
