use Rattle.std.proofs.Common.{arith, ◌≡◌, ◌-◌, true, length, get_or, sym, subst, Ok, Err}
use Rattle.std.proofs.lemmas.List.{length-take}
use Rattle.std.proofs.lemmas.Result.{err_from_is_err_and}
use Rattle.x86_64_model.specs.Allowed.{parents_present}
use Rattle.x86_64_model.specs.Hierarchy.{paths}
use Rattle.x86_64_model.proofs.Lemmas.Machines.Effects.{map_may}
use Rattle.x86_64_mappers.specs.private.Results.{create_refusal}
use Rattle.x86_64_mappers.proofs.Way.Pages.{path_parted}
use Rattle.x86_64_mappers.proofs.Map.OpenWays.{will_be_present}
use Rattle.x86_64_mappers.proofs.Map.MapEnds.{outside_front}
use Rattle.x86_64_mappers.proofs.Map.TablesMade.{page_tables_made}
use Rattle.x86_64_mappers.proofs.Way.Paths.{has_last_index, some_index_of, page_below_root}
use Rattle.x86_64_mappers.proofs.walk.map.create_tables_above.Goals as goal

pub create_tables-requires-clause-flags : goal.create_tables-requires-clause-flags
create_tables-requires-clause-flags g c =
    let h = g.M.Tables.hierarchy c.args.mapper.now in
    (map_may h.layout.levels h.layout.window (paths h) c.args.path.now 0 c.args.parent_flags.0 c.requires.may.allowed).marks

pub create_tables-requires-clause-outside : goal.create_tables-requires-clause-outside
create_tables-requires-clause-outside g c =
    let h = g.M.Tables.hierarchy c.args.mapper.now in
    let q = c.args.path.now in
    outside_front h.layout.window (length q - 1) q (map_may h.layout.levels h.layout.window (paths h) q 0 c.args.parent_flags.0 c.requires.may.allowed).outside

pub create_tables-requires-clause-present : goal.create_tables-requires-clause-present
create_tables-requires-clause-present g c =
    let h = g.M.Tables.hierarchy c.args.mapper.now in
    let M = paths h in
    let q = c.args.path.now in
    let more = c.args.parent_flags.0 in
    let size = has_last_index q (some_index_of h.layout.levels q g.S.PageSize.LEVEL c.requires.levels (page_below_root h.layout.levels g.S.PageSize.LEVEL (g.met.M.Tables.at_least_four c.args.mapper.now) g.S.PageSize.high)) in
    will_be_present M more _ (get_or q (length q - 1) 0) (subst (λ q. parents_present M more q ≡ true) (sym (path_parted q (length q - 1) size))
    (map_may h.layout.levels h.layout.window M q 0 more c.requires.may.allowed).parents)

pub returns-in_err-create_tables : goal.returns-in_err-create_tables
returns-in_err-create_tables g c =
    let s = c.args.mapper.now in
    let e = err_from_is_err_and c.from_residual.result c.from_residual.ensures.1 in
    rw (e.1, e.2) (page_tables_made (g.M.Tables.hierarchy s) _ (g.met.M.Tables.at_least_four s) (g.M.Tables.added_flags s).adds g.S.PageSize.LEVEL g.S.PageSize.low g.S.PageSize.high c.args.path.now c.requires.levels c.args.parent_flags.0 c.requires.may
    (Err (create_refusal c.in_err-create_tables.field-0.0)) (g.M.Tables.hierarchy c.create_tables.new.mapper) c.create_tables.ensures.layout c.create_tables.ensures.lent _ c.create_tables.ensures.made.serves c.in_err-create_tables.ensures.made.down)

pub returns : goal.returns
returns g c =
    let s = c.args.mapper.now in
    page_tables_made (g.M.Tables.hierarchy s) _ (g.met.M.Tables.at_least_four s) (g.M.Tables.added_flags s).adds g.S.PageSize.LEVEL g.S.PageSize.low g.S.PageSize.high c.args.path.now c.requires.levels c.args.parent_flags.0 c.requires.may
    (Ok _) (g.M.Tables.hierarchy c.create_tables.new.mapper) c.create_tables.ensures.layout c.create_tables.ensures.lent _ c.create_tables.ensures.made.serves c.in_ok-create_tables.ensures.made.down

pub overflow_sub-last : goal.overflow_sub-last
overflow_sub-last g c = omega (arith, c.requires.levels, g.met.M.Tables.at_least_four c.args.mapper.now, g.S.PageSize.high)

pub create_tables-requires-clause-short : goal.create_tables-requires-clause-short
create_tables-requires-clause-short g c = omega (arith, length-take (length c.args.path.now - 1) c.args.path.now, c.requires.levels, g.met.M.Tables.at_least_four c.args.mapper.now, g.S.PageSize.high, g.S.PageSize.low)
