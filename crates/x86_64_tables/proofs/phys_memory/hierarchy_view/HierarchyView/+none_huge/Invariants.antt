use Rattle.std.proofs.Common.{◌<◌, ◌-◌, ℕ}
use Rattle.x86_64_model.specs.Memory.{word}
use Rattle.x86_64_model.proofs.Lemmas.Tables.Huge.{NotHuge}
use Rattle.x86_64_tables.specs.Views.{seen}
use Rattle.x86_64_tables.proofs.phys_memory.hierarchy_view.HierarchyView.+none_huge.Given as goal

abbrev pub decreases-none_huge : goal.decreases-none_huge
decreases-none_huge g l = l.levels

abbrev pub invariant-loop-index : goal.invariant-loop-index
invariant-loop-index g l =
    let words = seen (g.T.TableMemory.tables l.self.memory.now) (g.P.PageTableFrameMapping.places l.self.mapping.now) l.self.root l.self.recursive in
    (i : ℕ) → i < l.index → NotHuge (l.levels - 1) words (word words l.frame i)
