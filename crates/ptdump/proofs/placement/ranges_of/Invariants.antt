use Rattle.std.proofs.Common.{map, take}
use Rattle.ptdump.specs.Placements.{AreRanges}
use Rattle.ptdump.proofs.placement.ranges_of.Given as goal

-- the ranges so far are those of the texts so far
abbrev pub invariant-loop-text : goal.invariant-loop-text
invariant-loop-text l = AreRanges (map (λ text. text.now) (take l.text-index l.texts)) l.ranges.items
