use Rattle.std.proofs.Common.{◌≡◌, drop}
use Rattle.x86_64_model.specs.private.Marks.{mark_all}
use Rattle.x86_64_tables.specs.Views.{mark_slot}
use Rattle.x86_64_tables.proofs.phys_memory.validity.HierarchyTest.mark_pool.Given as goal

-- marking all frames is marking the remaining ones from the current marks
abbrev pub invariant-loop-n : goal.invariant-loop-n
invariant-loop-n g l =
    let slot = mark_slot (g.T.TableMemory.tables l.self.view.memory.now) (g.P.PageTableFrameMapping.places l.self.view.mapping.now) l.self.view.root l.self.limit in
    mark_all slot l.initial.marks l.pool.frames ≡ mark_all slot l.marks (drop l.n l.pool.frames)
