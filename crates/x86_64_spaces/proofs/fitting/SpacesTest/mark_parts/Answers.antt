use Rattle.std.proofs.Common.{◌-◌, ◌+◌, Some, None, refl, sym, ap, ◌∙◌}
use Rattle.x86_64_model.specs.Memory.{word, words_of}
use Rattle.x86_64_model.specs.private.Marks.{mark_all}
use Rattle.x86_64_spaces.specs.private.SpaceTables.{words_without, grouped_at, owns}
use Rattle.x86_64_tables.specs.Views.{mark_slot}
use Rattle.x86_64_tables.proofs.WordsSeen.{is_named, named_at, is_not_named}
use Rattle.x86_64_spaces.proofs.Parts.{rest, rest_all, rest_named, rest_other, rest_passed, rest_done}
use Rattle.x86_64_spaces.proofs.fitting.SpacesTest.mark_parts.Goals as goal
use Rattle.x86_64_spaces.proofs.fitting.SpacesTest.mark_parts.Goals.{then-owns+in-Some+else-not-mark_tables, then-owns+in_default, else-owns}

pub returns-then-not-mark_tables : goal.returns-then-not-mark_tables
returns-then-not-mark_tables g c =
    let self = c.args.self.now in let list = g.S.SpaceList.spaces c.args.spaces.now in let s = grouped_at list c.args.n in
    let m = g.T.TableMemory.tables self.memory.now in let places = g.P.PageTableFrameMapping.places self.mapping.now in
    let slot = mark_slot m places s.space.root self.limit in
    let test = owns list s in
    let words = words_without (words_of m places) s.space in
    let w = word words s.space.root c.loop-index.index in
    let below = rw (c.test_at-test.ensures, c.space_at-root.ensures) at (sym c.in-Some.is ∙ c.table_below.ensures) in
    let marked = rw (c.test_at-test.ensures, c.levels_below-levels.ensures) at c.if-not-mark_tables.ensures in
    let on = sym c.owns.ensures ∙ c.if-owns.true in
    sym (ap (mark_all slot c.args.marks.now) (rest_all test ((g.L.LevelCount.LEVELS - 1) - 1) words s.space.root) ∙ c.loop-index.invariant
    ∙ rest_named test ((g.L.LevelCount.LEVELS - 1) - 1) words s.space.root slot c.loop-index.index c.loop-index.marks None w c.in-Some.below c.loop-index-test.true on
    refl (is_named w c.in-Some.below below) (named_at w c.in-Some.below below) marked)

pub loop-index-preserved : goal.loop-index-preserved
loop-index-preserved g c =
    let self = c.args.self.now in let list = g.S.SpaceList.spaces c.args.spaces.now in let s = grouped_at list c.args.n in
    let m = g.T.TableMemory.tables self.memory.now in let places = g.P.PageTableFrameMapping.places self.mapping.now in
    let slot = mark_slot m places s.space.root self.limit in
    let test = owns list s in
    let words = words_without (words_of m places) s.space in
    let i = c.loop-index.index in
    let w = word words s.space.root i in
    c.loop-index.invariant ∙ elim c.if-owns.branch [
      | then-owns+in-Some+else-not-mark_tables b ↦
          let below = rw (c.test_at-test.ensures, c.space_at-root.ensures) at (sym b.in-Some.is ∙ b.table_below.ensures) in
          let marked = rw (c.test_at-test.ensures, c.levels_below-levels.ensures) at b.if-not-mark_tables.ensures in
          let on = sym c.owns.ensures ∙ b.if-owns.true in
          rest_named test ((g.L.LevelCount.LEVELS - 1) - 1) words s.space.root slot i c.loop-index.marks (Some b.mark_tables.new.marks) w b.in-Some.below c.loop-index-test.true on
          refl (is_named w b.in-Some.below below) (named_at w b.in-Some.below below) marked
          ∙ ap (λ m. mark_all slot m (rest test ((g.L.LevelCount.LEVELS - 1) - 1) words s.space.root (i + 1))) (sym b.marks-is)
      | then-owns+in_default b ↦
          let below = rw (c.test_at-test.ensures, c.space_at-root.ensures) at (sym b.in_default.is ∙ b.table_below.ensures) in
          let on = sym c.owns.ensures ∙ b.if-owns.true in
          rest_other test ((g.L.LevelCount.LEVELS - 1) - 1) words s.space.root slot i c.loop-index.marks w c.loop-index-test.true on refl (is_not_named w below)
          ∙ ap (λ m. mark_all slot m (rest test ((g.L.LevelCount.LEVELS - 1) - 1) words s.space.root (i + 1))) (sym b.marks-is)
      | else-owns b ↦
          let off = sym c.owns.ensures ∙ b.if-owns.false in
          rest_passed test ((g.L.LevelCount.LEVELS - 1) - 1) words s.space.root slot i c.loop-index.marks c.loop-index-test.true off
          ∙ ap (λ m. mark_all slot m (rest test ((g.L.LevelCount.LEVELS - 1) - 1) words s.space.root (i + 1))) (sym b.marks-is)
    ]

pub returns : goal.returns
returns g c =
    let self = c.args.self.now in let list = g.S.SpaceList.spaces c.args.spaces.now in let s = grouped_at list c.args.n in
    let m = g.T.TableMemory.tables self.memory.now in let places = g.P.PageTableFrameMapping.places self.mapping.now in
    let slot = mark_slot m places s.space.root self.limit in
    let test = owns list s in
    let words = words_without (words_of m places) s.space in
    sym (ap (mark_all slot c.args.marks.now) (rest_all test ((g.L.LevelCount.LEVELS - 1) - 1) words s.space.root) ∙ c.loop-index.invariant
    ∙ rest_done test ((g.L.LevelCount.LEVELS - 1) - 1) words s.space.root slot c.loop-index.index c.loop-index.marks c.loop-index-test.false)
