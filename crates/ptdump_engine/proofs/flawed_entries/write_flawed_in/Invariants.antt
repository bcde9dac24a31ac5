use Rattle.std.proofs.Common.{map}
use Rattle.std.specs.List.{filter_map, range_with_len}
use Rattle.x86_64_model.specs.Memory.{identity_places, words_of}
use Rattle.ptdump_check.specs.Findings.{entry_in_table, flaw_in}
use Rattle.ptdump_engine.specs.CheckReports.{said_of}
use Rattle.ptdump_engine.proofs.flawed_entries.write_flawed_in.Given as goal

-- the findings of the entries so far are written
abbrev pub invariant-loop-index : goal.invariant-loop-index
invariant-loop-index g l =
    g.O.LineOutput.Lines l.fn.output l.output (map said_of (filter_map (flaw_in l.flaw) (filter_map (entry_in_table (words_of l.memory identity_places) l.table) (range_with_len 0 l.index))))
