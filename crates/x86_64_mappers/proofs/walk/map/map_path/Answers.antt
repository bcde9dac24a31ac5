use Rattle.std.proofs.Common.{arith, ◌≡◌, ◌∙◌, ◌-◌, true, length, get_or, sym, subst}
use Rattle.std.proofs.lemmas.List.{length-take}
use Rattle.std.proofs.lemmas.Result.{err_from_is_err_and}
use Rattle.x86_64_model.specs.Allowed.{parents_present}
use Rattle.x86_64_model.specs.Hierarchy.{◌laid_in◌, paths}
use Rattle.x86_64_model.proofs.Lemmas.Machines.Effects.{map_may}
use Rattle.x86_64_mappers.proofs.Map.PageMaps.{page_stopped, page_mapped}
use Rattle.x86_64_mappers.proofs.Way.Pages.{path_parted}
use Rattle.x86_64_mappers.specs.private.Results.{create_refusal}
use Rattle.x86_64_tables.specs.MapperAnswers.{map_answer}
use Rattle.x86_64_mappers.proofs.Map.OpenWays.{will_be_present}
use Rattle.x86_64_mappers.proofs.Map.MapEnds.{ends_map, outside_front}
use Rattle.x86_64_mappers.proofs.Way.Paths.{has_last_index, last_item, some_index_of, page_below_root}
use Rattle.x86_64_mappers.proofs.walk.map.map_path.Goals as goal

pub create_tables-requires-clause-flags : goal.create_tables-requires-clause-flags
create_tables-requires-clause-flags g c =
    let l = (g.M.Tables.hierarchy c.args.mapper.now).layout in
    (map_may l.levels l.window (paths (l laid_in (g.M.Tables.hierarchy c.args.mapper.now).memory)) c.args.path.now c.args.flags.0 c.args.parent_flags.0 c.requires.may.allowed).marks

pub create_tables-requires-clause-outside : goal.create_tables-requires-clause-outside
create_tables-requires-clause-outside g c =
    let h = g.M.Tables.hierarchy c.args.mapper.now in
    let q = c.args.path.now in
    let may = c.requires.may.allowed in
    outside_front h.layout.window (length q - 1) q (map_may h.layout.levels h.layout.window (paths h) q c.args.flags.0 c.args.parent_flags.0 may).outside

pub create_tables-requires-clause-present : goal.create_tables-requires-clause-present
create_tables-requires-clause-present g c =
    let s = c.args.mapper.now in
    let l = (g.M.Tables.hierarchy s).layout in
    let M = paths (l laid_in (g.M.Tables.hierarchy s).memory) in
    let q = c.args.path.now in
    let more = c.args.parent_flags.0 in
    let size = has_last_index q (some_index_of l.levels q g.S.PageSize.LEVEL c.requires.levels (page_below_root l.levels g.S.PageSize.LEVEL (g.met.M.Tables.at_least_four s) g.S.PageSize.high)) in
    will_be_present M more _ (get_or q (length q - 1) 0) (subst (λ q. parents_present M more q ≡ true) (sym (path_parted q (length q - 1) size))
    (map_may l.levels l.window M q c.args.flags.0 more c.requires.may.allowed).parents)

pub returns-in_err-table-clause-maps : goal.returns-in_err-table-clause-maps
returns-in_err-table-clause-maps g c =
    let s = c.args.mapper.now in
    let l = (g.M.Tables.hierarchy s).layout in
    let m = (g.M.Tables.hierarchy s).memory in
    let q = c.args.path.now in
    let more = c.args.parent_flags.0 in
    let size = has_last_index q (some_index_of l.levels q g.S.PageSize.LEVEL c.requires.levels (page_below_root l.levels g.S.PageSize.LEVEL (g.met.M.Tables.at_least_four s) g.S.PageSize.high)) in
    let may = map_may l.levels l.window (paths (l laid_in m)) q c.args.flags.0 more c.requires.may.allowed in
    let e = err_from_is_err_and c.from_residual.result c.from_residual.ensures.1 in
    rw (e.1, e.2) (ends_map (g.M.Tables.hierarchy s) (g.A.FrameAllocator.supply c.args.frame_allocator.now) q c.args.frame c.args.flags.0 more (g.M.Tables.hierarchy c.create_tables.new.mapper) c.create_tables.ensures.layout c.create_tables.ensures.lent _ _
    (page_stopped l (g.met.M.Tables.is_mapping s).distinct m (g.A.FrameAllocator.supply c.args.frame_allocator.now) g.S.PageSize.LEVEL q (length q - 1) size c.requires.levels
    c.args.frame c.args.flags.0 more c.requires.may.fits may.marks (create_refusal c.in_err-table.field-0.0) (g.M.Tables.hierarchy c.create_tables.new.mapper).memory _ c.in_err-table.ensures.made.down))

pub returns-in_err-table-clause-serves : goal.returns-in_err-table-clause-serves
returns-in_err-table-clause-serves g c = c.in_err-table.ensures.made.serves

pub returns-clause-maps : goal.returns-clause-maps
returns-clause-maps g c =
    let s = c.args.mapper.now in
    let l = (g.M.Tables.hierarchy s).layout in
    let m = (g.M.Tables.hierarchy s).memory in
    let q = c.args.path.now in
    let i = c.index-path-last.result in
    let more = c.args.parent_flags.0 in
    let size = has_last_index q (some_index_of l.levels q g.S.PageSize.LEVEL c.requires.levels (page_below_root l.levels g.S.PageSize.LEVEL (g.met.M.Tables.at_least_four s) g.S.PageSize.high)) in
    let may = map_may l.levels l.window (paths (l laid_in m)) q c.args.flags.0 more c.requires.may.allowed in
    ends_map (g.M.Tables.hierarchy s) (g.A.FrameAllocator.supply c.args.frame_allocator.now) q c.args.frame c.args.flags.0 more (g.M.Tables.hierarchy c.set_leaf.new.mapper)
    (c.set_leaf.ensures.layout ∙ c.create_tables.ensures.layout) (c.set_leaf.ensures.lent ∙ c.create_tables.ensures.lent) _ _
    (page_mapped l (g.met.M.Tables.is_mapping s).distinct m (g.A.FrameAllocator.supply c.args.frame_allocator.now) g.S.PageSize.LEVEL q (length q - 1) size c.requires.levels
    c.args.frame c.args.flags.0 more c.requires.may.fits may.marks g.S.PageSize.low g.S.PageSize.high may.outside (g.M.Tables.hierarchy c.create_tables.new.mapper).memory _ c.in_ok-table.table c.in_ok-table.ensures.made.down
    i (last_item q i size c.index-path-last.is) c.set_leaf.ensures.index
    (map_answer c.args.frame c.set_leaf.result) (g.M.Tables.hierarchy c.set_leaf.new.mapper).memory (rw c.create_tables.ensures.layout at c.set_leaf.ensures.set))

pub returns-clause-serves : goal.returns-clause-serves
returns-clause-serves g c = c.create_tables.ensures.made.serves

pub overflow_sub-last : goal.overflow_sub-last
overflow_sub-last g c = omega (arith, c.requires.levels, g.met.M.Tables.at_least_four c.args.mapper.now, g.S.PageSize.high)

pub offset_bounds-path-last : goal.offset_bounds-path-last
offset_bounds-path-last g c = omega (arith, c.requires.levels, g.met.M.Tables.at_least_four c.args.mapper.now, g.S.PageSize.high)

pub bounds-path-last : goal.bounds-path-last
bounds-path-last g c = omega (arith, c.requires.levels, g.met.M.Tables.at_least_four c.args.mapper.now, g.S.PageSize.high)

pub create_tables-requires-clause-short : goal.create_tables-requires-clause-short
create_tables-requires-clause-short g c = omega (arith, length-take (length c.args.path.now - 1) c.args.path.now, c.requires.levels, g.met.M.Tables.at_least_four c.args.mapper.now, g.S.PageSize.high, g.S.PageSize.low)

pub set_leaf-requires-clause-short : goal.set_leaf-requires-clause-short
set_leaf-requires-clause-short g c = rw c.create_tables.ensures.layout (omega (arith, length-take (length c.args.path.now - 1) c.args.path.now, c.requires.levels, g.met.M.Tables.at_least_four c.args.mapper.now, g.S.PageSize.high, g.S.PageSize.low))
