use Rattle.std.proofs.Common.{◌∙◌}
use Rattle.x86_64_tables.proofs.SegmentsInOrder.{next_in_order}
use Rattle.x86_64_tables.proofs.phys_memory.segment_mapping.first_wrong.Goals as goal

pub returns-then-not-may_follow-clause-wrong : goal.returns-then-not-may_follow-clause-wrong
returns-then-not-may_follow-clause-wrong c = record {
  there = c.loop-index-test.true;
  before = c.loop-index.invariant;
  wrong =
      next_in_order c.args.segments.now c.loop-index.index _ c.may_follow.result c.loop-index-test.true c.loop-index.invariant c.may_follow.ensures
      ∙ c.if-not-may_follow.true;
}

pub loop-index-preserved : goal.loop-index-preserved
loop-index-preserved c =
    next_in_order c.args.segments.now c.loop-index.index _ c.may_follow.result c.loop-index-test.true c.loop-index.invariant c.may_follow.ensures
    ∙ c.if-not-may_follow.false
