use Rattle.std.proofs.Common.{sym, refl, ◌∙◌, ap, ◌-◌, ◌+◌, Some, None, arith}
use Rattle.x86_64_model.specs.Memory.{word}
use Rattle.x86_64_model.specs.private.Marks.{mark_all}
use Rattle.x86_64_model.proofs.Lemmas.Tables.MarkSteps.{rest, rest_named, rest_other, rest_done, tables_begin, tables_none, tables_one}
use Rattle.x86_64_tables.specs.Views.{seen, mark_slot}
use Rattle.x86_64_tables.proofs.WordsSeen.{is_named, named_at, is_not_named}
use Rattle.x86_64_tables.proofs.phys_memory.validity.HierarchyTest.+mark_tables.Goals as goal
use Rattle.x86_64_tables.proofs.phys_memory.validity.HierarchyTest.+mark_tables.Goals.{in-Some+else-not-mark_tables, in_default}

pub returns-then-not-mark : goal.returns-then-not-mark
returns-then-not-mark g t c =
    let self = c.args.self.now in
    let places = g.P.PageTableFrameMapping.places self.view.mapping.now in
    tables_none (mark_slot (g.T.TableMemory.tables self.view.memory.now) places self.view.root self.limit) c.args.levels
    (seen (g.T.TableMemory.tables self.view.memory.now) places self.view.root self.view.recursive) c.args.frame c.args.marks.now c.if-not-mark.ensures

pub returns-else-levels-gt0 : goal.returns-else-levels-gt0
returns-else-levels-gt0 g t c =
    let self = c.args.self.now in
    let places = g.P.PageTableFrameMapping.places self.view.mapping.now in
    tables_one (mark_slot (g.T.TableMemory.tables self.view.memory.now) places self.view.root self.limit) c.args.levels
    (seen (g.T.TableMemory.tables self.view.memory.now) places self.view.root self.view.recursive) c.args.frame c.args.marks.now (Some c.mark.new.marks)
    c.if-levels-gt0.false c.if-not-mark.ensures

pub returns-after-loop-index : goal.returns-after-loop-index
returns-after-loop-index g t c =
    let self = c.args.self.now in
    let places = g.P.PageTableFrameMapping.places self.view.mapping.now in
    let slot = mark_slot (g.T.TableMemory.tables self.view.memory.now) places self.view.root self.limit in
    let words = seen (g.T.TableMemory.tables self.view.memory.now) places self.view.root self.view.recursive in
    sym (tables_begin slot c.args.levels words c.args.frame c.args.marks.now (Some c.mark.new.marks) c.if-levels-gt0.true c.if-not-mark.ensures
    ∙ c.loop-index.invariant ∙ rest_done slot (c.args.levels - 1) words c.args.frame c.loop-index.index c.loop-index.marks (omega arith))

pub returns-then-not-mark_tables : goal.returns-then-not-mark_tables
returns-then-not-mark_tables g t c =
    let self = c.args.self.now in
    let places = g.P.PageTableFrameMapping.places self.view.mapping.now in
    let slot = mark_slot (g.T.TableMemory.tables self.view.memory.now) places self.view.root self.limit in
    let words = seen (g.T.TableMemory.tables self.view.memory.now) places self.view.root self.view.recursive in
    let w = word words c.args.frame c.loop-index.index in
    let below = sym c.in-Some.is ∙ c.table_below.ensures in
    sym (tables_begin slot c.args.levels words c.args.frame c.args.marks.now (Some c.mark.new.marks) c.if-levels-gt0.true c.if-not-mark.ensures
    ∙ c.loop-index.invariant
    ∙ rest_named slot (c.args.levels - 1) words c.args.frame c.loop-index.index c.loop-index.marks None w c.in-Some.below c.loop-index-test.true
    refl (is_named w c.in-Some.below below) (named_at w c.in-Some.below below) c.if-not-mark_tables.ensures)

pub loop-index-preserved : goal.loop-index-preserved
loop-index-preserved g t c =
    let self = c.args.self.now in
    let places = g.P.PageTableFrameMapping.places self.view.mapping.now in
    let slot = mark_slot (g.T.TableMemory.tables self.view.memory.now) places self.view.root self.limit in
    let words = seen (g.T.TableMemory.tables self.view.memory.now) places self.view.root self.view.recursive in
    let w = word words c.args.frame c.loop-index.index in
    c.loop-index.invariant ∙ elim c.match-table_below.branch [
      | in-Some+else-not-mark_tables b ↦
          let below = sym b.in-Some.is ∙ c.table_below.ensures in
          rest_named slot (c.args.levels - 1) words c.args.frame c.loop-index.index c.loop-index.marks (Some b.mark_tables.new.marks) w b.in-Some.below c.loop-index-test.true
          refl (is_named w b.in-Some.below below) (named_at w b.in-Some.below below) b.if-not-mark_tables.ensures
          ∙ ap (λ m. mark_all slot m (rest (c.args.levels - 1) words c.args.frame (c.loop-index.index + 1))) (sym b.marks-is)
      | in_default b ↦
          rest_other slot (c.args.levels - 1) words c.args.frame c.loop-index.index c.loop-index.marks w c.loop-index-test.true
          refl (is_not_named w (sym b.in_default.is ∙ c.table_below.ensures))
          ∙ ap (λ m. mark_all slot m (rest (c.args.levels - 1) words c.args.frame (c.loop-index.index + 1))) (sym b.marks-is)
    ]
