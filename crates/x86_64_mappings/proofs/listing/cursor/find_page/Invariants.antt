use Rattle.std.proofs.Common.{◌≡◌}
use Rattle.x86_64_model.specs.Memory.{words_of}
use Rattle.x86_64_mappings.specs.private.Cursors.{IsCursor, to_come, way_left}
use Rattle.x86_64_mappings.proofs.listing.cursor.find_page.Given as goal

-- the mappings still to come are those that were to come at first
abbrev pub invariant-loop-root : goal.invariant-loop-root
invariant-loop-root g l =
    let words = words_of (g.T.TableMemory.tables l.memory) (g.P.PageTableFrameMapping.places l.mapping) in
    IsCursor g.L.LevelCount.LEVELS words l.root l.cursor × (to_come g.L.LevelCount.LEVELS words l.root l.initial.cursor ≡ to_come g.L.LevelCount.LEVELS words l.root l.cursor)

abbrev pub decreases-loop-root : goal.decreases-loop-root
decreases-loop-root g l = way_left g.L.LevelCount.LEVELS l.cursor.next l.cursor.level l.cursor.rest.now
