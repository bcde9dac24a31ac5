use Rattle.ptdump_engine.proofs.Processing.{AreRead}
use Rattle.ptdump_engine.proofs.processors.read_notes.Given as goal

-- the notes so far are read
abbrev pub invariant-loop-cpu : goal.invariant-loop-cpu
invariant-loop-cpu g l = g.S.ByteSource.IsKnown → AreRead (g.S.ByteSource.bytes l.dump.source) l.given l.notes l.cpu l.processors.items
