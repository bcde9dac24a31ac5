use Rattle.std.proofs.Common.{◌≡◌, ◌++◌}
use Rattle.x86_64_model.specs.Path.{paths_below}
use Rattle.test_reference.specs.Cleaning.{frames}
use Rattle.test_reference.proofs.CleanUps.{pending}
use Rattle.test_reference.proofs.cleaning.CleanUpRange.+add_frames.Given as goal

abbrev pub decreases-add_frames : goal.decreases-add_frames
decreases-add_frames l = l.depth

abbrev pub invariant-loop-index : goal.invariant-loop-index
invariant-loop-index l = l.back.items ++ pending l.self.levels l.paths l.self.low l.self.high l.depth l.path l.index ≡ l.initial.back.items ++ frames l.self.levels l.paths l.self.low l.self.high (paths_below l.depth l.path)
