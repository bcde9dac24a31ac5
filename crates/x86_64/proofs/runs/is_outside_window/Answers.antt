use Rattle.std.proofs.Common.{ap, sym, ◌∙◌}
use Rattle.x86_64_model.specs.Position.{index}
use Rattle.x86_64_mappers.proofs.Way.FirstIndex.{is_outside_test}
use Rattle.x86_64.proofs.runs.is_outside_window.Goals as goal

pub returns-in-Some : goal.returns-in-Some
returns-in-Some g c =
    let recursive = sym c.recursive_index.ensures ∙ c.in-Some.is in
    is_outside_test _ _ g.L.LevelCount.LEVELS g.S.PageSize.LEVEL c.args.page (g.met.M.TablesIn.level_count c.args.mapper.now) g.L.LevelCount.at_least_four g.S.PageSize.high _ _ recursive (c.table_index.ensures ∙ ap (λ n. index n c.args.page) c.LEVELS.ensures) _ c.ne.ensures
