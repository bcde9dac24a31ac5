use Rattle.std.proofs.Common.{◌∙◌, sym}
use Rattle.x86_64_dump.specs.Placement.{range_fault}
use Rattle.x86_64_dump.proofs.Placed.{first_here, none_yet}
use Rattle.x86_64_dump.proofs.placement.first_fault.Goals as goal

pub returns-then-is_some : goal.returns-then-is_some
returns-then-is_some c =
    first_here (range_fault c.args.length) c.args.ranges.now c.loop-range.range-index _ c.fault_in-fault.result c.loop-range-test.true c.loop-range.invariant c.fault_in-fault.ensures (sym c.is_some.ensures ∙ c.if-is_some.true)

pub loop-range-preserved : goal.loop-range-preserved
loop-range-preserved c =
    none_yet (range_fault c.args.length) c.args.ranges.now c.loop-range.range-index _ c.fault_in-fault.result c.loop-range-test.true c.loop-range.invariant c.fault_in-fault.ensures (sym c.is_some.ensures ∙ c.if-is_some.false)
