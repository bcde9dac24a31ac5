use Rattle.std.proofs.Common.{◌≡◌, length}
use Rattle.x86_64_mappings.specs.private.Joined.{AllFit, regions_from}
use Rattle.x86_64_mappings.proofs.region_list.RegionsInIterator.next.Given as goal

-- the regions to come at the start are those that are still to come
abbrev pub invariant-loop-mapping : goal.invariant-loop-mapping
invariant-loop-mapping g l = let L = g.L.LevelCount.LEVELS in
    (l.fn.self ≡ regions_from L l.self-inside.joiner l.self-inside.mappings) × AllFit L l.self-inside.mappings

abbrev pub decreases-loop-mapping : goal.decreases-loop-mapping
decreases-loop-mapping g l = length l.self-inside.mappings
