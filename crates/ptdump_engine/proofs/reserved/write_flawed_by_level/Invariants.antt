use Rattle.std.proofs.Common.{◌≡◌, ◌+◌, ◌++◌, List, drop, map}
use Rattle.x86_64_dump.specs.Loaded.{frames_of, loaded_words}
use Rattle.ptdump_check.specs.Findings.{flawed_entries, tables_from_level}
use Rattle.ptdump_check.specs.declared.findings.finding.Finding.{Finding}
use Rattle.ptdump_engine.specs.CheckReports.{said_of}
use Rattle.ptdump_engine.proofs.reserved.write_flawed_by_level.Given as goal

-- the findings so far are written, and those of the levels to come are the rest
abbrev pub invariant-loop-frames : goal.invariant-loop-frames
invariant-loop-frames g l =
    let T = loaded_words l.tables in
    (l.level ≡ l.frames-index)
    × ((done : List Finding) × g.O.LineOutput.Lines l.fn.output l.output (map said_of done)
    × (done ++ flawed_entries l.flaw T (tables_from_level (l.level + 1) (frames_of (drop l.frames-index l.levels))) ≡ flawed_entries l.flaw T (tables_from_level 1 (frames_of l.levels))))
