use Rattle.std.proofs.Common.{◌≡◌, ◌<◌, ℕ, false}
use Rattle.x86_64_model.specs.Memory.{word, words_of}
use Rattle.x86_64_spaces.specs.SpaceLayouts.{indices_of}
use Rattle.x86_64_spaces.specs.private.SpaceTables.{words_without}
use Rattle.x86_64_spaces.proofs.giving_up.maps_nothing.Given as goal

abbrev pub invariant-loop-index : goal.invariant-loop-index
invariant-loop-index g l =
    let words = words_of (g.T.TableMemory.tables l.memory) (g.P.PageTableFrameMapping.places l.mapping) in
    (i : ℕ) → i < l.index → indices_of l.shared i ≡ false → word (words_without words l.space) l.space.root i ≡ 0
