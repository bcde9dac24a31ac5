use Rattle.std.proofs.Common.{sym, ap, ◌∙◌, arith}
use Rattle.x86_64_model.specs.Memory.{words_of}
use Rattle.x86_64_mappings.specs.private.Cursors.{listed_from}
use Rattle.x86_64_mappings.proofs.Steps.{on_root, no_root, way_table}
use Rattle.x86_64_mappings.proofs.listing.cursor.start.Goals as goal

pub returns-in-Some-clause-on : goal.returns-in-Some-clause-on
returns-in-Some-clause-on g c =
    let L = g.L.LevelCount.LEVELS in
    let words = words_of (g.T.TableMemory.tables c.args.memory.now) (g.P.PageTableFrameMapping.places c.args.mapping.now) in
    rw (c.on.ensures.rest, c.on.ensures.next, c.on.ensures.level, c.on.ensures.rights, c.LEVELS.ensures)
    (on_root L words c.args.root c.args.next c.in-Some.table.now (let low = g.L.LevelCount.at_least_four in omega (arith, low)) c.requires (sym c.in-Some.ensures) c.on.ensures.size)

pub returns-in-Some-clause-nearer : goal.returns-in-Some-clause-nearer
returns-in-Some-clause-nearer g c =
    let L = g.L.LevelCount.LEVELS in
    let high = g.L.LevelCount.at_most_five in
    let all = way_table L c.args.next L c.in-Some.table.now c.on.ensures.size in
    rw (c.on.ensures.rest, c.on.ensures.next, c.on.ensures.level, c.LEVELS.ensures) (omega (arith, all, high))

pub returns-in-None-clause-same : goal.returns-in-None-clause-same
returns-in-None-clause-same g c =
    let L = g.L.LevelCount.LEVELS in
    let words = words_of (g.T.TableMemory.tables c.args.memory.now) (g.P.PageTableFrameMapping.places c.args.mapping.now) in
    no_root L words c.args.root c.args.next c.requires (sym c.in-None.ensures)
    ∙ ap (listed_from L words c.args.root) (sym (c.at.ensures.next ∙ c.POSITION_COUNT.ensures ∙ g.L.LevelCount.known_count))
