use Rattle.std.proofs.Common.{◌≡◌, ◌+◌, ◌-◌, ◌++◌, ap, ◌∙◌, length, replicate, arith}
use Rattle.x86_64_model.specs.Path.{path_at}
use Rattle.x86_64_mappers.proofs.Window.Windows.{window_path, window_shows}
use Rattle.x86_64_mappers.proofs.recursive_page_table.windows.table_window.Goals as goal

pub returns-clause-path : goal.returns-clause-path
returns-clause-path g c =
    let L = g.L.LevelCount.LEVELS in
    let path = c.indices.result.now in
    let same = c.indices.ensures ∙ c.to_level-path.ensures.path ∙ ap (λ p. path_at L (c.args.level + 1) p) c.start_address.ensures.value in
    let long = ap length c.indices.ensures in
    let times : L - length path ≡ c.args.level = omega (arith, long, c.to_level-path.ensures.levels) in
    window_path L c.args.index c.args.level c.window.result c.containing_address.result path (path_at L (c.args.level + 1) c.args.page) c.containing_address.ensures c.window.ensures.aligned same
    (c.window.ensures.path ∙ ap (λ n. replicate n c.args.index ++ path) times)

pub returns-clause-table : goal.returns-clause-table
returns-clause-table g c =
    let L = g.L.LevelCount.LEVELS in
    let path = c.indices.result.now in
    let same = c.indices.ensures ∙ c.to_level-path.ensures.path ∙ ap (λ p. path_at L (c.args.level + 1) p) c.start_address.ensures.value in
    window_shows L c.args.index c.args.level c.window.result c.containing_address.result path (path_at L (c.args.level + 1) c.args.page) c.containing_address.ensures c.window.ensures.aligned same
    c.window.ensures.table

pub window-requires : goal.window-requires
window-requires g c =
    let long = ap length c.indices.ensures in
    omega (arith, long, c.to_level-path.ensures.levels, c.requires.0)
