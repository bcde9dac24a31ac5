use Rattle.std.proofs.Common.{map, take}
use Rattle.x86_64_model.specs.Memory.{identity_places, words_of}
use Rattle.ptdump_check.specs.Findings.{flawed_entries}
use Rattle.ptdump_engine.specs.CheckReports.{said_of}
use Rattle.ptdump_engine.proofs.reserved.write_flawed_at.Given as goal

-- the findings of the tables in the frames so far are written
abbrev pub invariant-loop-frame : goal.invariant-loop-frame
invariant-loop-frame g l = g.O.LineOutput.Lines l.fn.output l.output
    (map said_of (flawed_entries l.flaw (words_of l.memory identity_places) (map (λ f. record { frame = f; level = l.level }) (take l.frame-index l.frames))))
