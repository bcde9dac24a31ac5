use Rattle.std.proofs.Common.{arith}
use Rattle.ptdump.proofs.RangeTexts.{two_parts}
use Rattle.ptdump.proofs.direct_map.ends_in.Goals as goal

pub returns-in_default-clause-none : goal.returns-in_default-clause-none
returns-in_default-clause-none c = λ range are. let two = two_parts c.args.parts.now range are in absurd (omega (arith, c.in_default.len_below))

pub returns-in_default-2-clause-none : goal.returns-in_default-2-clause-none
returns-in_default-2-clause-none c = λ range are. let two = two_parts c.args.parts.now range are in absurd (omega (arith, c.in_default.len_at_least))
