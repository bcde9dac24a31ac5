use Rattle.std.proofs.Common.{◌≡◌, drop}
use Rattle.x86_64_model.specs.private.Marks.{mark_all}
use Rattle.x86_64_tables.specs.Views.{mark_slot}
use Rattle.x86_64_tables.proofs.phys_memory.validity.HierarchyTest.mark_frames.Given as goal

-- the frames still to mark, from the marks of the iteration
abbrev pub invariant-loop-address : goal.invariant-loop-address
invariant-loop-address g l =
    let slot = mark_slot (g.T.TableMemory.tables l.self.view.memory.now) (g.P.PageTableFrameMapping.places l.self.view.mapping.now) l.self.view.root l.self.limit in
    mark_all slot l.initial.marks l.frames ≡ mark_all slot l.marks (drop l.address-index l.frames)
