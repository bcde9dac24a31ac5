use Rattle.std.proofs.Common.{sym, ap, ◌∙◌}
use Rattle.test_reference.specs.Fronts.{first_present}
use Rattle.test_reference.proofs.Parents.{parents_rest}
use Rattle.test_reference.proofs.Allowed.{table_here}
use Rattle.test_reference.proofs.conditions.none_absent.Goals as goal

pub loop-length-init : goal.loop-length-init
loop-length-init c = ap (first_present c.args.paths.now) (sym (parents_rest c.args.path.now))

pub loop-length-preserved : goal.loop-length-preserved
loop-length-preserved c = table_here c.args.paths.now c.args.path.now c.loop-length.length c.entry-word.result c.loop-length-test.true c.entry-word.ensures (sym c.if-not-is_present.ensures) (sym c.if-is_huge.ensures) ∙ c.loop-length.invariant
