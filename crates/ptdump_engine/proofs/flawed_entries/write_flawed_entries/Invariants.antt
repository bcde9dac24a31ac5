use Rattle.std.proofs.Common.{map, take}
use Rattle.x86_64_model.specs.Memory.{identity_places, words_of}
use Rattle.ptdump_check.specs.Findings.{flawed_entries}
use Rattle.ptdump_engine.specs.CheckReports.{said_of}
use Rattle.ptdump_engine.proofs.flawed_entries.write_flawed_entries.Given as goal

-- the findings of the tables so far are written
abbrev pub invariant-loop-table : goal.invariant-loop-table
invariant-loop-table g l = g.O.LineOutput.Lines l.fn.output l.output (map said_of (flawed_entries l.flaw (words_of l.memory identity_places) (take l.table-index l.tables)))
