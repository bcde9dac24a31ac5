use Rattle.std.proofs.Common.{◌≡◌, ◌<◌, ◌+◌, ◌-◌, ◌*◌, ◌^◌, ◌↔◌, ◌∙◌, IsTrue, true, sym, subst, rules}
use Rattle.x86_64_model.specs.Entry.{has, present}
use Rattle.x86_64_tables.specs.PageTableFlags.{bits_of}
use Rattle.x86_64_mappers.specs.Ranges.{range_of}
use Rattle.x86_64_mappers.proofs.Way.PageRanges.{map_range_tested}
use Rattle.x86_64_mappers.proofs.walk.condition.map_range_allowed.Goals as goal

pub returns : goal.returns
unfolding has
returns g c =
    let s = c.args.mapper.now in
    let h = g.M.Tables.hierarchy s in
    let is_present : present (bits_of c.args.parent_flags) ≡ true = sym (c.contains.ensures tt) ∙ c.if-not-contains.false in
    let some : 0 < c.args.count = search rules in
    map_range_tested h (range_of g.S.PageSize.LEVEL c.args.page c.args.frame (bits_of c.args.flags) (bits_of c.args.parent_flags)) g.S.PageSize.low g.S.PageSize.high (g.met.M.Tables.at_least_four s) is_present
    c.args.count some c.frames_exist.result c.range_allowed.result c.flags_allowed.result
    (subst (λ z. IsTrue c.frames_exist.result ↔ (c.args.frame + (c.args.count - 1) * z < 2 ^ 52)) g.S.PageSize.size c.frames_exist.ensures) c.range_allowed.ensures c.flags_allowed.ensures
