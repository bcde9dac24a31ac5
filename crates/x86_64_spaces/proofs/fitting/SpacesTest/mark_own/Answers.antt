use Rattle.std.proofs.Common.{◌-◌, ◌∙◌}
use Rattle.x86_64_model.specs.Memory.{words_of}
use Rattle.x86_64_spaces.specs.private.SpaceTables.{words_without, grouped_at, owns, parts_where}
use Rattle.x86_64_tables.specs.Views.{mark_slot}
use Rattle.x86_64_spaces.proofs.Parts.{root_refused, after_root}
use Rattle.x86_64_spaces.proofs.fitting.SpacesTest.mark_own.Goals as goal

pub returns-then-not-mark : goal.returns-then-not-mark
returns-then-not-mark g c =
    let self = c.args.self.now in let list = g.S.SpaceList.spaces c.args.spaces.now in let s = grouped_at list c.args.n in
    let m = g.T.TableMemory.tables self.memory.now in let places = g.P.PageTableFrameMapping.places self.mapping.now in
    root_refused (mark_slot m places s.space.root self.limit) c.args.marks.now s.space.root
    (parts_where (owns list s) ((g.L.LevelCount.LEVELS - 1) - 1) (words_without (words_of m places) s.space) s.space.root)
    (rw (c.test_at.ensures, c.space_at-root.ensures) at c.if-not-mark.ensures)

pub returns : goal.returns
returns g c =
    let self = c.args.self.now in let list = g.S.SpaceList.spaces c.args.spaces.now in let s = grouped_at list c.args.n in
    let m = g.T.TableMemory.tables self.memory.now in let places = g.P.PageTableFrameMapping.places self.mapping.now in
    c.mark_parts.ensures ∙ after_root (mark_slot m places s.space.root self.limit) c.args.marks.now c.mark.new.marks s.space.root
    (parts_where (owns list s) ((g.L.LevelCount.LEVELS - 1) - 1) (words_without (words_of m places) s.space) s.space.root)
    (rw (c.test_at.ensures, c.space_at-root.ensures) at c.if-not-mark.ensures)
