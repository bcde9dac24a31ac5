use Rattle.std.proofs.Common.{◌≡◌, ◌≤◌, ◌-◌, ◌++◌, List, drop, length, map}
use Rattle.ptdump_check.specs.Findings.{all_named_often}
use Rattle.ptdump_check.specs.declared.findings.finding.Finding.{Finding}
use Rattle.ptdump_check.specs.Ascending.{Ascend}
use Rattle.ptdump_engine.specs.CheckReports.{said_of}
use Rattle.ptdump_engine.proofs.check.tables.write_named_often.Given as goal

-- the findings so far are written, and those of the other names are the rest
abbrev pub invariant-loop-start : goal.invariant-loop-start
invariant-loop-start g l =
    (l.start ≤ length l.names) × Ascend (λ name. name.frame) (drop l.start l.names)
    × ((done : List Finding) × g.O.LineOutput.Lines l.fn.output l.output (map said_of done) × (done ++ all_named_often (drop l.start l.names) l.root ≡ all_named_often l.names l.root))

abbrev pub decreases-loop-start : goal.decreases-loop-start
decreases-loop-start g l = length l.names - l.start
