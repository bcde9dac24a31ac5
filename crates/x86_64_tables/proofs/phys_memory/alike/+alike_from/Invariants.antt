use Rattle.std.proofs.Common.{◌<◌, ℕ}
use Rattle.x86_64_tables.specs.Views.{seen}
use Rattle.x86_64_tables.proofs.AlikeSteps.{AlikeIndex}
use Rattle.x86_64_tables.proofs.phys_memory.alike.+alike_from.Given as goal

abbrev pub decreases-alike_from : goal.decreases-alike_from
decreases-alike_from g l = l.levels

-- the entries at paths that begin with one of the indices so far are alike
abbrev pub invariant-loop-index : goal.invariant-loop-index
invariant-loop-index g l =
    let words = seen (g.T.TableMemory.tables l.one.memory.now) (g.P.PageTableFrameMapping.places l.one.mapping.now) l.one.root l.one.recursive in
    let other_words = seen (g.U.TableMemory.tables l.other.memory.now) (g.Q.PageTableFrameMapping.places l.other.mapping.now) l.other.root l.other.recursive in
    (i : ℕ) → i < l.index → AlikeIndex words l.frame other_words l.other_frame l.levels i
