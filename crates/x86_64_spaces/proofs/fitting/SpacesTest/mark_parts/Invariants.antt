use Rattle.std.proofs.Common.{◌≡◌, ◌-◌}
use Rattle.x86_64_model.specs.Memory.{words_of}
use Rattle.x86_64_model.specs.private.Marks.{mark_all}
use Rattle.x86_64_spaces.specs.private.SpaceTables.{words_without, grouped_at, owns}
use Rattle.x86_64_tables.specs.Views.{mark_slot}
use Rattle.x86_64_spaces.proofs.Parts.{rest}
use Rattle.x86_64_spaces.proofs.fitting.SpacesTest.mark_parts.Given as goal

-- marking all tables is marking the remaining ones from the current marks
abbrev pub invariant-loop-index : goal.invariant-loop-index
invariant-loop-index g l =
    let m = g.T.TableMemory.tables l.self.memory.now in let places = g.P.PageTableFrameMapping.places l.self.mapping.now in
    let list = g.S.SpaceList.spaces l.spaces in let s = grouped_at list l.n in
    let slot = mark_slot m places s.space.root l.self.limit in
    let below = rest (owns list s) ((g.L.LevelCount.LEVELS - 1) - 1) (words_without (words_of m places) s.space) s.space.root in
    mark_all slot l.initial.marks (below 0) ≡ mark_all slot l.marks (below l.index)
