use Rattle.std.proofs.Common.{map, take}
use Rattle.std.specs.List.{filter_map}
use Rattle.x86_64_model.specs.Memory.{identity_places, words_of}
use Rattle.ptdump_check.specs.Findings.{missing}
use Rattle.ptdump_engine.specs.CheckReports.{said_of}
use Rattle.ptdump_engine.proofs.check.tables.write_missing.Given as goal

-- the findings of the names so far are written
abbrev pub invariant-loop-name : goal.invariant-loop-name
invariant-loop-name g l = g.O.LineOutput.Lines l.fn.output l.output (map said_of (filter_map (missing (words_of l.memory identity_places)) (take l.name-index l.names)))
