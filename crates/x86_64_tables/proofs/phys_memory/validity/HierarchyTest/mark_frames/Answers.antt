use Rattle.std.proofs.Common.{sym, ◌∙◌, ap, Some, None}
use Rattle.std.proofs.lemmas.List.{drop_all}
use Rattle.x86_64_model.specs.private.Marks.{mark_all}
use Rattle.x86_64_model.proofs.Lemmas.Tables.MarkSteps.{pool_more}
use Rattle.x86_64_tables.specs.Views.{mark_slot}
use Rattle.x86_64_tables.proofs.phys_memory.validity.HierarchyTest.mark_frames.Goals as goal

pub returns-then-not-mark_at : goal.returns-then-not-mark_at
returns-then-not-mark_at g c =
    let self = c.args.self.now in
    let slot = mark_slot (g.T.TableMemory.tables self.view.memory.now) (g.P.PageTableFrameMapping.places self.view.mapping.now) self.view.root self.limit in
    sym (c.loop-address.invariant ∙ pool_more slot c.args.frames.now c.loop-address.address-index 0 c.loop-address.marks None c.loop-address-test.true c.if-not-mark_at.ensures)

pub loop-address-preserved : goal.loop-address-preserved
loop-address-preserved g c =
    let self = c.args.self.now in
    let slot = mark_slot (g.T.TableMemory.tables self.view.memory.now) (g.P.PageTableFrameMapping.places self.view.mapping.now) self.view.root self.limit in
    c.loop-address.invariant ∙ pool_more slot c.args.frames.now c.loop-address.address-index 0 c.loop-address.marks (Some c.mark_at.new.marks) c.loop-address-test.true c.if-not-mark_at.ensures

pub returns : goal.returns
unfolding mark_all
returns g c =
    let self = c.args.self.now in
    let slot = mark_slot (g.T.TableMemory.tables self.view.memory.now) (g.P.PageTableFrameMapping.places self.view.mapping.now) self.view.root self.limit in
    sym (c.loop-address.invariant ∙ ap (mark_all slot c.loop-address.marks) (drop_all c.loop-address.address-index c.args.frames.now c.loop-address-test.false))
