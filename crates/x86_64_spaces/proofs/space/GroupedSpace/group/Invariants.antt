use Rattle.std.proofs.Common.{◌≡◌, drop}
use Rattle.x86_64_spaces.specs.SpaceGroups.{group_in}
use Rattle.x86_64_spaces.proofs.space.GroupedSpace.group.Given as goal

-- none of the ranges so far has the index
abbrev pub invariant-loop-range : goal.invariant-loop-range
invariant-loop-range l = group_in l.self.groups.now l.index ≡ group_in (drop l.range-index l.self.groups.now) l.index
