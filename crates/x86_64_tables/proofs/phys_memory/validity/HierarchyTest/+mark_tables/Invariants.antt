use Rattle.std.proofs.Common.{◌≡◌, ◌-◌}
use Rattle.x86_64_model.specs.private.Marks.{mark_all}
use Rattle.x86_64_model.proofs.Lemmas.Tables.MarkSteps.{rest}
use Rattle.x86_64_tables.specs.Views.{seen, mark_slot}
use Rattle.x86_64_tables.proofs.phys_memory.validity.HierarchyTest.+mark_tables.Given as goal

abbrev pub decreases-mark_tables : goal.decreases-mark_tables
decreases-mark_tables g l = l.levels

-- marking all tables is marking the remaining ones from the current marks
abbrev pub invariant-loop-index : goal.invariant-loop-index
invariant-loop-index g l =
    let places = g.P.PageTableFrameMapping.places l.self.view.mapping.now in
    let slot = mark_slot (g.T.TableMemory.tables l.self.view.memory.now) places l.self.view.root l.self.limit in
    let below = rest (l.levels - 1) (seen (g.T.TableMemory.tables l.self.view.memory.now) places l.self.view.root l.self.view.recursive) l.frame in
    mark_all slot l.initial.marks (below 0) ≡ mark_all slot l.marks (below l.index)
