use Rattle.std.proofs.Common.{sym, ◌∙◌}
use Rattle.test_reference.proofs.Parents.{stop_start, stop_table}
use Rattle.test_reference.proofs.windows.first_stop.Goals as goal

pub loop-length-init : goal.loop-length-init
loop-length-init c = stop_start _ _

pub loop-length-preserved : goal.loop-length-preserved
loop-length-preserved c = sym (stop_table _ _ _ _ c.loop-length-test.true c.entry_at-word.ensures (sym c.if-not-is_present.ensures) (sym c.if-is_huge.ensures)) ∙ c.loop-length.invariant
