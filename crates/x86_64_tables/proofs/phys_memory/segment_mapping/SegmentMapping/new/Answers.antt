use Rattle.std.proofs.Common.{◌+◌}
use Rattle.x86_64_tables.proofs.SegmentsInOrder.{order_wrong}
use Rattle.x86_64_tables.proofs.phys_memory.segment_mapping.SegmentMapping.new.Goals as goal

pub returns-in-Some-clause-not_in_order : goal.returns-in-Some-clause-not_in_order
returns-in-Some-clause-not_in_order c = order_wrong c.args.segments.now (c.in-Some.segment + 1) c.in-Some.ensures.wrong.wrong
