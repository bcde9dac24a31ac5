use Rattle.std.proofs.Common.{◌+◌, sym, ◌∙◌, ap, drop, Some, None}
use Rattle.std.proofs.lemmas.List.{drop_all}
use Rattle.std.proofs.lemmas.Option.{slice_get-get_or, get_or_from_slice_get}
use Rattle.x86_64_model.specs.private.Marks.{mark_one, mark_all}
use Rattle.x86_64_model.proofs.Lemmas.Tables.MarkSteps.{pool_more}
use Rattle.x86_64_tables.specs.Views.{mark_slot}
use Rattle.x86_64_tables.proofs.phys_memory.validity.HierarchyTest.mark_pool.Goals as goal
use Rattle.x86_64_tables.proofs.phys_memory.validity.HierarchyTest.mark_pool.Goals.{in-Some+else-not-mark, in_default}

pub returns-then-not-mark : goal.returns-then-not-mark
returns-then-not-mark g c =
    let self = c.args.self.now in
    let slot = mark_slot (g.T.TableMemory.tables self.view.memory.now) (g.P.PageTableFrameMapping.places self.view.mapping.now) self.view.root self.limit in
    let frames = c.args.pool.now.frames in
    let is = get_or_from_slice_get frames c.loop-n.n c.in-Some.frame 0 (sym c.frame_at.ensures ∙ c.in-Some.is) in
    sym (c.loop-n.invariant ∙ pool_more slot frames c.loop-n.n 0 c.loop-n.marks None (rw c.len-n-end.ensures at c.loop-n-test.true)
    (c.if-not-mark.ensures ∙ ap (mark_one slot c.loop-n.marks) (sym is)))

pub loop-n-preserved : goal.loop-n-preserved
loop-n-preserved g c =
    let self = c.args.self.now in
    let slot = mark_slot (g.T.TableMemory.tables self.view.memory.now) (g.P.PageTableFrameMapping.places self.view.mapping.now) self.view.root self.limit in
    let frames = c.args.pool.now.frames in
    let within = rw c.len-n-end.ensures at c.loop-n-test.true in
    c.loop-n.invariant ∙ elim c.match-frame_at.branch [
      | in-Some+else-not-mark b ↦
          let is = get_or_from_slice_get frames c.loop-n.n b.in-Some.frame 0 (sym c.frame_at.ensures ∙ b.in-Some.is) in
          pool_more slot frames c.loop-n.n 0 c.loop-n.marks (Some b.mark.new.marks) within
          (b.if-not-mark.ensures ∙ ap (mark_one slot c.loop-n.marks) (sym is))
          ∙ ap (λ m. mark_all slot m (drop (c.loop-n.n + 1) frames)) (sym b.marks-is)
      | in_default b ↦ absurd (b.in_default.not-Some _ (c.frame_at.ensures ∙ slice_get-get_or frames c.loop-n.n 0 within))
    ]

pub returns : goal.returns
unfolding mark_all
returns g c =
    let self = c.args.self.now in
    let slot = mark_slot (g.T.TableMemory.tables self.view.memory.now) (g.P.PageTableFrameMapping.places self.view.mapping.now) self.view.root self.limit in
    let past = rw c.len-n-end.ensures at c.loop-n-test.false in
    sym (c.loop-n.invariant ∙ ap (mark_all slot c.loop-n.marks) (drop_all c.loop-n.n c.args.pool.now.frames past))
