use Rattle.std.proofs.Common.{rules}
use Rattle.std.proofs.lemmas.Iterator.{YieldsList-from_map, YieldsList-from_slice, items_from_collect}
use Rattle.x86_64_dump.specs.Placement.{range_segment}
use Rattle.x86_64_dump.proofs.placement.segments_of.Goals as goal

pub returns : goal.returns
returns c = items_from_collect _ c.collect.ensures.ran (YieldsList-from_map _ range_segment (YieldsList-from_slice c.args.ranges.now cc) c.map.ensures.closure (λ x r q k. search rules))
