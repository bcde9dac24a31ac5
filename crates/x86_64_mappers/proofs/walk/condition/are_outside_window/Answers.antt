use Rattle.std.proofs.Common.{◌≡◌, ◌<◌, ◌%◌, ◌∙◌, ap, sym, subst, rules}
use Rattle.x86_64_model.specs.Position.{index, position_count}
use Rattle.x86_64_mappers.proofs.Way.PageRanges.{outside_tested}
use Rattle.x86_64_mappers.proofs.walk.condition.are_outside_window.Goals as goal

pub returns : goal.returns
returns g c =
    let s = c.args.mapper.now in
    let l = (g.M.Tables.hierarchy s).layout in
    let level = g.S.PageSize.LEVEL in
    let count = g.met.M.TablesIn.level_count s in
    let aligned : c.args.first % g.S.PageSize.SIZE ≡ 0 = search rules in
    let there : c.args.last < position_count g.L.LevelCount.LEVELS = search rules in
    let first : c.table_index.result ≡ index l.levels c.args.first = c.table_index.ensures ∙ ap (λ n. index n c.args.first) (c.LEVELS.ensures ∙ sym count) in
    let last : c.table_index-2.result ≡ index l.levels c.args.last = c.table_index-2.ensures ∙ ap (λ n. index n c.args.last) (c.LEVELS-2.ensures ∙ sym count) in
    rw (c.from-index.ensures.0, c.from-first.ensures.0, c.from-last.ensures.0)
    (outside_tested l.window l.levels level g.S.PageSize.low g.S.PageSize.high (g.met.M.Tables.at_least_four s) c.in-Some.index c.args.first c.args.last (sym c.recursive_index.ensures ∙ c.in-Some.is)
    (subst (λ n. c.args.last < position_count n) (sym count) there) c.requires (ap (λ z. c.args.first % z) (sym g.S.PageSize.size) ∙ aligned) _ _ first last)
