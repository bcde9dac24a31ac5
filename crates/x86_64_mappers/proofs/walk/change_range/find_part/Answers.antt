use Rattle.std.proofs.Common.{◌≡◌, ◌≤◌, ◌+◌, ◌-◌, ◌*◌, ◌/◌, length, take, subst, arith}
use Rattle.std.proofs.lemmas.List.{length-take}
use Rattle.x86_64_model.specs.Path.{path_at}
use Rattle.x86_64_model.specs.Position.{span}
use Rattle.x86_64_mappers.specs.private.RangeChangeSteps.{table_path}
use Rattle.x86_64_mappers.specs.private.Results.{walk_refusal}
use Rattle.x86_64_mappers.specs.private.Stops.{StopsBelow}
use Rattle.x86_64_mappers.proofs.Range.PartSizes.{part_fits}
use Rattle.x86_64_mappers.proofs.Range.StoppedParts.{refused_below}
use Rattle.x86_64_mappers.proofs.walk.change_range.find_part.Goals as goal

pub returns-in-Err-clause-refused : goal.returns-in-Err-clause-refused
returns-in-Err-clause-refused g c =
    let s = c.args.mapper.now in
    let l = (g.M.Tables.hierarchy s).layout in
    let m = (g.M.Tables.hierarchy s).memory in
    let level = g.S.PageSize.LEVEL in
    let page = c.args.page in
    let path = c.args.path.now in
    let levels = c.requires.levels in
    let four = g.met.M.Tables.at_least_four s in
    let high = g.S.PageSize.high in
    let depth = c.in-Err.end.depth in
    let why = walk_refusal c.in-Err.end.why in
    let size = length-take (length path - 1) path in
    let inside : depth ≤ l.levels - level = (let most = c.in-Err.ensures.depth.1 in omega (arith, most, size, levels)) in
    let of_entry : c.LEVEL.result + (length path - depth) ≡ l.levels + 1 - depth = (let is = c.LEVEL.ensures in omega (arith, is, levels, inside, high, four)) in
    let ends : StopsBelow l m (take depth (table_path (path_at l.levels level page))) why = subst (λ q. StopsBelow l m (take depth (table_path q)) why) c.requires.path c.in-Err.ensures.ends in
    refused_below l m level page g.S.PageSize.low (omega (arith, high, four)) depth c.in-Err.ensures.depth.0 inside why ends c.min-in-Err.result
    (λ k less. subst (λ e. (page + k * span level) / span e ≡ page / span e) of_entry (c.pages_below.ensures.same k (let few = c.min-in-Err.ensures in omega (arith, few, less))))

pub overflow_sub-last : goal.overflow_sub-last
overflow_sub-last g c = omega (arith, c.requires.levels, g.met.M.Tables.at_least_four c.args.mapper.now, g.S.PageSize.high)

pub walk_to_table-requires-clause-short : goal.walk_to_table-requires-clause-short
walk_to_table-requires-clause-short g c = omega (arith, length-take (length c.args.path.now - 1) c.args.path.now, c.requires.levels, g.met.M.Tables.at_least_four c.args.mapper.now, g.S.PageSize.high, g.S.PageSize.low)

pub offset_bounds-path-last : goal.offset_bounds-path-last
offset_bounds-path-last g c = omega (arith, c.requires.levels, g.met.M.Tables.at_least_four c.args.mapper.now, g.S.PageSize.high)

pub bounds-path-last : goal.bounds-path-last
bounds-path-last g c = omega (arith, c.requires.levels, g.met.M.Tables.at_least_four c.args.mapper.now, g.S.PageSize.high)

pub overflow_sub-path : goal.overflow_sub-path
overflow_sub-path g c = omega (arith, c.in-Err.ensures.depth.1, length-take (length c.args.path.now - 1) c.args.path.now, c.requires.levels, g.met.M.Tables.at_least_four c.args.mapper.now, g.S.PageSize.high)

pub pages_below-requires-clause-above : goal.pages_below-requires-clause-above
pages_below-requires-clause-above g c = omega (arith, c.LEVEL.ensures)

pub returns-in-Ok-clause-fits : goal.returns-in-Ok-clause-fits
returns-in-Ok-clause-fits g c =
    let path = c.args.path.now in
    let levels = (g.M.Tables.hierarchy c.args.mapper.now).layout.levels in
    let long : length path ≡ levels + 1 - g.S.PageSize.LEVEL = omega (arith, c.requires.levels) in
    part_fits path levels g.S.PageSize.LEVEL c.index-path-last.result c.from.result c.args.count c.min.result long g.S.PageSize.high (g.met.M.Tables.at_least_four c.args.mapper.now) c.index-path-last.is c.from.ensures.0 c.min.ensures c.from.ensures.1
