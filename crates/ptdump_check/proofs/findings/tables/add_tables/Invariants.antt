use Rattle.std.proofs.Common.{◌≡◌, ◌++◌, map, take}
use Rattle.ptdump_check.proofs.findings.tables.add_tables.Given as goal

-- the tables in the frames so far are added
abbrev pub invariant-loop-frame : goal.invariant-loop-frame
invariant-loop-frame l = l.tables.items ≡ l.fn.tables.items ++ map (λ f. record { frame = f; level = l.level }) (take l.frame-index l.frames)
