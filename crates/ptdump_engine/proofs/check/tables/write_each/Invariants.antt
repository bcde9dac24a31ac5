use Rattle.std.proofs.Common.{map, take}
use Rattle.ptdump_engine.specs.CheckReports.{said_of}
use Rattle.ptdump_engine.proofs.check.tables.write_each.Given as goal

-- the findings so far are written
abbrev pub invariant-loop-finding : goal.invariant-loop-finding
invariant-loop-finding g l = g.O.LineOutput.Lines l.fn.output l.output (map said_of (take l.finding-index l.findings))
