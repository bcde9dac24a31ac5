use Rattle.std.proofs.Common.{◌-◌, ap, sym, ◌∙◌, replicate, false, arith}
use Rattle.x86_64_tables.specs.PhysMemory.{length_keys}
use Rattle.x86_64_spaces.specs.private.SpaceTables.{grouped_at}
use Rattle.x86_64_spaces.proofs.Groups.{some_first}
use Rattle.x86_64_spaces.proofs.FitsRoom.{room_at}
use Rattle.x86_64_spaces.proofs.fitting.list_fits.Goals as goal

pub has_room_by-requires-clause-clear : goal.has_room_by-requires-clause-clear
has_room_by-requires-clause-clear g c =
    c.fill.ensures.after (λ y e. e) ∙ ap (λ n. replicate n false) (c.requires ∙ sym (length_keys (g.T.TableMemory.tables c.args.memory.now)))

pub returns : goal.returns
returns g c =
    let m = g.T.TableMemory.tables c.args.memory.now in let places = g.P.PageTableFrameMapping.places c.args.mapping.now in
    let mapping = g.met.P.PageTableFrameMapping.is_mapping c.args.mapping.now in
    let spaces = g.S.SpaceList.spaces c.args.spaces.now in let first = grouped_at spaces 0 in
    let none = c.if-count-eq0.false in let count = c.count.ensures in
    let member = some_first spaces (omega (arith, none, count)) in
    let some = g.L.LevelCount.at_least_four in
    let means = room_at ((g.L.LevelCount.LEVELS - 1) - 1) places mapping m spaces first member c.args.capacity c.args.frames.now
    g.L.LevelCount.LEVELS (omega (arith, some)) in
    let tells = c.has_room_by.ensures in
    (λ t. means.0 (tells.0 t), λ x. tells.1 (means.1 x))
