use Rattle.std.proofs.Common.{◌≡◌, ◌+◌, ◌-◌, true, false, length, refl, sym, ◌∙◌, arith, leb-true, le-leb}
use Rattle.std.specs.FinMap.{keys}
use Rattle.x86_64_model.proofs.Lemmas.Tables.Checked.{all_clear}
use Rattle.x86_64_tables.specs.Views.{mark_of}
use Rattle.x86_64_tables.specs.private.Soundness.{tables_met}
use Rattle.x86_64_tables.proofs.CountedMarks.{marked_all, none_marked}
use Rattle.x86_64_tables.proofs.ViewMarks.{accepted}
use Rattle.x86_64_tables.proofs.phys_memory.validity.HierarchyTest.has_room_by.Goals as goal

pub returns-then-not-mark_hierarchy : goal.returns-then-not-mark_hierarchy
returns-then-not-mark_hierarchy g c = (λ h. cc, λ all. c.if-not-mark_hierarchy.ensures.sound c.args.frames.now all.0)

pub returns-then-not-mark_frames : goal.returns-then-not-mark_frames
returns-then-not-mark_frames g c =
    let self = c.args.self.now in
    let memory = g.T.TableMemory.tables self.view.memory.now in
    let places = g.P.PageTableFrameMapping.places self.view.mapping.now in
    let is_mapping = g.met.P.PageTableFrameMapping.is_mapping self.view.mapping.now in
    let clear = all_clear c.args.marks.now (length (keys memory)) c.requires in
    let marked = c.if-not-mark_hierarchy.ensures.marked refl in
    let accepted = accepted memory places is_mapping self.view.root self.view.recursive self.limit (g.L.LevelCount.LEVELS - 1)
    c.args.frames.now c.args.marks.now clear marked.0
    c.mark_hierarchy.new.marks c.mark_frames.new.marks marked.1 false c.if-not-mark_frames.ensures in
    (λ h. cc, λ all. accepted.1 all.0)

pub returns : goal.returns
returns g c =
    let self = c.args.self.now in
    let memory = g.T.TableMemory.tables self.view.memory.now in
    let places = g.P.PageTableFrameMapping.places self.view.mapping.now in
    let is_mapping = g.met.P.PageTableFrameMapping.is_mapping self.view.mapping.now in
    let clear = all_clear c.args.marks.now (length (keys memory)) c.requires in
    let marked = c.if-not-mark_hierarchy.ensures.marked refl in
    let accepted = accepted memory places is_mapping self.view.root self.view.recursive self.limit (g.L.LevelCount.LEVELS - 1)
    c.args.frames.now c.args.marks.now clear marked.0
    c.mark_hierarchy.new.marks c.mark_frames.new.marks marked.1 true c.if-not-mark_frames.ensures in
    let slot = mark_of g.T.TableMemory.tables g.P.PageTableFrameMapping.places self in
    let tables = tables_met g.T.TableMemory.tables g.P.PageTableFrameMapping.places self (g.L.LevelCount.LEVELS - 1) in
    let at_first = none_marked c.args.marks.now (length (keys memory)) c.requires in
    let with_tables = marked_all slot c.args.marks.now c.mark_hierarchy.new.marks tables (sym marked.1) in
    let with_frames = marked_all slot c.mark_hierarchy.new.marks c.mark_frames.new.marks c.args.frames.now (sym c.if-not-mark_frames.ensures) in
    let all : c.count_set.result ≡ length tables + length c.args.frames.now = c.count_set.ensures ∙ omega (arith, at_first, with_tables, with_frames) in
    let most = c.saturating_add.ensures in
    let below = c.count_set.type_inv in (
      λ h. (accepted.0 refl, let le = leb-true c.count_set.result c.saturating_add.result h in omega (arith, le, most, all)),
      λ room. le-leb c.count_set.result c.saturating_add.result (let few = room.1 in omega (arith, few, most, below, all)),
    )
