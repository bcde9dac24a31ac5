use Rattle.std.proofs.Common.{arith, ◌≡◌, ◌≤◌, ◌-◌, ◌+◌, ◌∙◌, length, get_or, sym, subst}
use Rattle.std.proofs.lemmas.List.{length-take}
use Rattle.std.proofs.lemmas.Result.{err_from_is_err_and}
use Rattle.x86_64_mappers.specs.private.RangeSteps.{AreLeavesSet}
use Rattle.x86_64_mappers.proofs.Map.MapEnds.{outside_front}
use Rattle.x86_64_mappers.proofs.Way.Paths.{has_last_index, last_item, some_index_of, page_below_root}
use Rattle.x86_64_mappers.proofs.walk.map_range.map_part.Goals as goal

pub create_tables-requires-clause-outside : goal.create_tables-requires-clause-outside
create_tables-requires-clause-outside g c =
    outside_front (g.M.Tables.hierarchy c.args.mapper.now).layout.window (length c.args.path.now - 1) c.args.path.now c.requires.outside

pub returns-in_err-table-clause-maps : goal.returns-in_err-table-clause-maps
returns-in_err-table-clause-maps g c =
    let e = err_from_is_err_and c.from_residual.result c.from_residual.ensures.1 in
    rw (e.1, e.2) (record { part = c.in_err-table.ensures.made.down; serves = c.in_err-table.ensures.made.serves })

pub returns-clause-maps : goal.returns-clause-maps
returns-clause-maps g c =
    let s = c.args.mapper.now in
    let l = (g.M.Tables.hierarchy s).layout in
    let q = c.args.path.now in
    let size = has_last_index q (some_index_of l.levels q g.S.PageSize.LEVEL c.requires.levels (page_below_root l.levels g.S.PageSize.LEVEL (g.met.M.Tables.at_least_four s) g.S.PageSize.high)) in
    let middle = (g.M.Tables.hierarchy c.create_tables.new.mapper).memory in
    let index : c.from-first.result ≡ get_or q (length q - 1) 0 = c.from-first.ensures.0 ∙ last_item q c.index-path-last.result size c.index-path-last.is in
    record {
      part = record {
        table = c.in_ok-table.table;
        middle = middle;
        down = c.in_ok-table.ensures.made.down;
        leaves = subst (λ i. AreLeavesSet l.places middle c.in_ok-table.table g.S.PageSize.LEVEL i c.args.frame c.args.flags.0 c.args.count c.set_leaves.result (g.M.Tables.hierarchy c.set_leaves.new.mapper).memory)
            index (rw c.create_tables.ensures.layout at c.set_leaves.ensures.set);
      };
      serves = c.create_tables.ensures.made.serves;
    }

pub overflow_sub-last : goal.overflow_sub-last
overflow_sub-last g c = omega (arith, c.requires.levels, g.met.M.Tables.at_least_four c.args.mapper.now, g.S.PageSize.high)

pub offset_bounds-path-last : goal.offset_bounds-path-last
offset_bounds-path-last g c = omega (arith, c.requires.levels, g.met.M.Tables.at_least_four c.args.mapper.now, g.S.PageSize.high)

pub bounds-path-last : goal.bounds-path-last
bounds-path-last g c = omega (arith, c.requires.levels, g.met.M.Tables.at_least_four c.args.mapper.now, g.S.PageSize.high)

pub create_tables-requires-clause-short : goal.create_tables-requires-clause-short
create_tables-requires-clause-short g c = omega (arith, length-take (length c.args.path.now - 1) c.args.path.now, c.requires.levels, g.met.M.Tables.at_least_four c.args.mapper.now, g.S.PageSize.high, g.S.PageSize.low)

pub set_leaves-requires-clause-short : goal.set_leaves-requires-clause-short
set_leaves-requires-clause-short g c = rw c.create_tables.ensures.layout (omega (arith, length-take (length c.args.path.now - 1) c.args.path.now, c.requires.levels, g.met.M.Tables.at_least_four c.args.mapper.now, g.S.PageSize.high, g.S.PageSize.low))

pub set_leaves-requires-clause-within : goal.set_leaves-requires-clause-within
set_leaves-requires-clause-within g c =
    let l = (g.M.Tables.hierarchy c.args.mapper.now).layout in
    let q = c.args.path.now in
    let size = has_last_index q (some_index_of l.levels q g.S.PageSize.LEVEL c.requires.levels (page_below_root l.levels g.S.PageSize.LEVEL (g.met.M.Tables.at_least_four c.args.mapper.now) g.S.PageSize.high)) in
    let index : c.from-first.result ≡ get_or q (length q - 1) 0 = c.from-first.ensures.0 ∙ last_item q c.index-path-last.result size c.index-path-last.is in
    subst (λ i. i + c.args.count ≤ 512) (sym index) c.requires.within
