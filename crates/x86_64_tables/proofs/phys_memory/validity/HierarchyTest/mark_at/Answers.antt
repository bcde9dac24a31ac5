use Rattle.std.proofs.Common.{sym, ◌∙◌}
use Rattle.x86_64_tables.proofs.FrameAddresses.{no_frame}
use Rattle.x86_64_tables.proofs.ViewMarks.{never_marked}
use Rattle.x86_64_tables.proofs.phys_memory.validity.HierarchyTest.mark_at.Goals as goal

pub returns-in-None : goal.returns-in-None
returns-in-None g c =
    let view = c.args.self.now.view in
    never_marked (g.T.TableMemory.tables view.memory.now) (g.P.PageTableFrameMapping.places view.mapping.now) (g.met.P.PageTableFrameMapping.is_mapping view.mapping.now)
    view.root c.args.self.now.limit c.args.marks.now c.args.address (no_frame c.args.address (sym c.in-None.is ∙ c.frame_at.ensures))
