use Rattle.std.proofs.Common.{arith}
use Rattle.ptdump.proofs.RangeTexts.{three_parts}
use Rattle.ptdump.proofs.placement.range_in.Goals as goal

pub returns-in_default-clause-none : goal.returns-in_default-clause-none
returns-in_default-clause-none c = λ range are. let three = three_parts c.args.parts.now range are in absurd (omega (arith, c.in_default.len_below))

pub returns-in_default-2-clause-none : goal.returns-in_default-2-clause-none
returns-in_default-2-clause-none c = λ range are. let three = three_parts c.args.parts.now range are in absurd (omega (arith, c.in_default.len_at_least))
