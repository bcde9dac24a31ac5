use Rattle.text.proofs.Digits.{AreWritten}
use Rattle.text.proofs.pieces.put_digits.Given as goal

abbrev pub invariant-loop-left : goal.invariant-loop-left
invariant-loop-left l = AreWritten l.base l.number l.left l.end l.start l.fn.line l.line

abbrev pub decreases-loop-left : goal.decreases-loop-left
decreases-loop-left l = l.left
