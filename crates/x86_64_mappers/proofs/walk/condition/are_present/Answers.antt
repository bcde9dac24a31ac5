use Rattle.std.proofs.Common.{◌∙◌}
use Rattle.x86_64_mappers.proofs.Way.PresentParents.{found_present}
use Rattle.x86_64_mappers.specs.private.Results.{walk_result}
use Rattle.x86_64_mappers.proofs.walk.condition.are_present.Goals as goal

pub returns : goal.returns
returns g c last outside =
    let l = (g.M.Tables.hierarchy c.args.mapper.now).layout in
    let m = (g.M.Tables.hierarchy c.args.mapper.now).memory in
    c.meets_none_absent.ensures ∙ found_present l m c.args.parents.now (walk_result c.find_table.result) c.find_table.ensures.found last outside
