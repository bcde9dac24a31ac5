use Rattle.std.proofs.Common.{◌≡◌, [], take}
use Rattle.std.specs.List.{filter_map}
use Rattle.x86_64_dump.specs.Placement.{range_fault}
use Rattle.x86_64_dump.proofs.placement.first_fault.Given as goal

-- the ranges so far have no fault
abbrev pub invariant-loop-range : goal.invariant-loop-range
invariant-loop-range l = filter_map (range_fault l.length) (take l.range-index l.ranges) ≡ []
