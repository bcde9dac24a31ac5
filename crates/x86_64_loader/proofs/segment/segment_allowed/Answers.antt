use Rattle.x86_64_loader.proofs.AllowedSegments.{range_is_allowed}
use Rattle.x86_64_loader.proofs.segment.segment_allowed.Goals as goal

pub returns : goal.returns
returns g c =
    let h = g.M.Tables.hierarchy c.args.mapper.now in
    let s = c.args.segment.now in
    let is = range_is_allowed h (g.met.M.TablesIn.level_count c.args.mapper.now) s in
    let tests = rw c.parent_flags.ensures at c.map_range_allowed.ensures in
    (λ test. is.0 (tests.0 test), λ allowed. tests.1 (is.1 allowed))
