use Rattle.std.proofs.Common.{◌-◌, arith}
use Rattle.x86_64_spaces.specs.private.SpaceTables.{grouped_at}
use Rattle.x86_64_spaces.proofs.Groups.{some_first}
use Rattle.x86_64_spaces.proofs.Sound.{fits_at}
use Rattle.x86_64_spaces.proofs.fitting.list_fits_pool.Goals as goal

pub returns-clause-decides : goal.returns-clause-decides
returns-clause-decides g c =
    let m = g.T.TableMemory.tables c.args.memory.now in let places = g.P.PageTableFrameMapping.places c.args.mapping.now in
    let mapping = g.met.P.PageTableFrameMapping.is_mapping c.args.mapping.now in
    let spaces = g.S.SpaceList.spaces c.args.spaces.now in let first = grouped_at spaces 0 in
    let none = c.if-count-eq0.false in let count = c.count.ensures in
    let member = some_first spaces (omega (arith, none, count)) in
    let some = g.L.LevelCount.at_least_four in
    let means = fits_at ((g.L.LevelCount.LEVELS - 1) - 1) places mapping m spaces c.args.pool.now.limit c.args.pool.now.frames first member
    g.L.LevelCount.LEVELS (omega (arith, some)) in
    let tells = rw c.limit.ensures at c.is_sound_by.ensures in
    (λ t. means.0 (tells.0 t), λ x. tells.1 (means.1 x))
