use Rattle.std.proofs.Common.{◌≡◌, ◌-◌, ◌==◌, [], ◌++◌, replicate, ap, ap₂, ◌∙◌, arith}
use Rattle.x86_64_mappers.proofs.Window.RootWindows.{root_window_is}
use Rattle.x86_64_mappers.proofs.recursive_page_table.is_root_window.Goals as goal

pub returns : goal.returns
returns g c =
    let L = g.L.LevelCount.LEVELS in
    let some = g.L.LevelCount.at_least_four in
    let w = c.window_position.result in
    let window = c.window_position.ensures in
    let all : L - 0 ≡ L = omega arith in
    ap (λ p. p == w) c.position.ensures.value
    ∙ root_window_is L c.args.addr w (omega (arith, some)) (rw c.position.ensures.value at c.position.ensures.below) window.inside window.aligned
    (window.path ∙ ap₂ (λ n r. replicate n r ++ []) all c.root_index.ensures)
