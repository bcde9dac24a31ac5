use Rattle.std.proofs.Common.{◌≡◌, ◌+◌, ◌++◌, drop}
use Rattle.x86_64_dump.specs.Loaded.{frames_of}
use Rattle.ptdump_check.specs.Findings.{tables_from_level}
use Rattle.ptdump_check.proofs.findings.tables.tables_by_level.Given as goal

-- the tables so far and those of the levels to come are all
abbrev pub invariant-loop-of_level : goal.invariant-loop-of_level
invariant-loop-of_level l =
    (l.level ≡ l.of_level-index)
    × (l.tables.items ++ tables_from_level (l.level + 1) (frames_of (drop l.of_level-index l.frames)) ≡ tables_from_level 1 (frames_of l.frames))
