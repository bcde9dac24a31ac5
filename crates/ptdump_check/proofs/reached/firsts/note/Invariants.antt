use Rattle.ptdump_check.proofs.Noted.{AreNoted}
use Rattle.ptdump_check.proofs.reached.firsts.note.Given as goal

abbrev pub invariant-loop-i : goal.invariant-loop-i
invariant-loop-i g l = AreNoted g.L.LevelCount.LEVELS l.frames l.mapping l.begin l.i l.fn.firsts l.firsts
