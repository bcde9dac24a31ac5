use Rattle.std.proofs.Common.{◌≡◌, ◌-◌, ◌++◌}
use Rattle.x86_64_model.specs.Position.{page_path as page_path_of}
use Rattle.test_reference.proofs.positions.page_path.Given as goal

abbrev pub invariant-loop-below : goal.invariant-loop-below
invariant-loop-below l = l.path.items ++ page_path_of (l.level - l.below) l.position ≡ page_path_of l.level l.position
