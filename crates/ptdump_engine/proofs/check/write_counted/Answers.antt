use Rattle.std.proofs.Common.{arith}
use Rattle.ptdump_engine.proofs.check.write_counted.Goals as goal

pub returns-clause-count : goal.returns-clause-count
returns-clause-count g c =
    let counted = c.in_ok-write_lines.ensures.count in
    omega (arith, counted, c.new-lines.ensures.count, c.count.ensures)
