use Rattle.std.proofs.Common.{◌≡◌}
use Rattle.x86_64_model.specs.Memory.{word, words_of}
use Rattle.x86_64_spaces.specs.SpaceLayouts.{indices_of}
use Rattle.x86_64_spaces.specs.private.SpaceTables.{words_without}
use Rattle.x86_64_spaces.specs.private.Writes.{HasShared}
use Rattle.x86_64_spaces.proofs.making.fill_root.Given as goal

abbrev pub invariant-loop-index : goal.invariant-loop-index
invariant-loop-index g l =
    let m = g.T.TableMemory.tables l.fn.memory in
    let words = words_without (words_of m (g.P.PageTableFrameMapping.places l.mapping)) l.template in
    HasShared (indices_of l.shared) (word words l.template.root) m l.place l.index (g.T.TableMemory.tables l.memory)
    × (g.T.TableMemory.lent l.memory ≡ g.T.TableMemory.lent l.fn.memory)
