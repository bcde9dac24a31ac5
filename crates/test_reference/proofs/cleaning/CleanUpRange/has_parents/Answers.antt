use Rattle.std.proofs.Common.{sym, ap, ◌∙◌}
use Rattle.std.specs.List.{list_all}
use Rattle.x86_64_model.specs.CleanUp.{in_range}
use Rattle.test_reference.proofs.Parents.{parents_rest}
use Rattle.test_reference.proofs.CleanUps.{one_fails, one_passes}
use Rattle.test_reference.proofs.cleaning.CleanUpRange.has_parents.Goals as goal

pub loop-length-init : goal.loop-length-init
loop-length-init c = ap (list_all (in_range c.args.self.levels c.args.paths.now c.args.self.low c.args.self.high)) (sym (parents_rest c.args.path.now))

pub returns-then-not-has_table : goal.returns-then-not-has_table
returns-then-not-has_table c = sym (one_fails (in_range c.args.self.levels c.args.paths.now c.args.self.low c.args.self.high) c.args.path.now c.loop-length.length c.has_table.result c.loop-length-test.true c.has_table.ensures c.if-not-has_table.true) ∙ c.loop-length.invariant

pub loop-length-preserved : goal.loop-length-preserved
loop-length-preserved c = one_passes (in_range c.args.self.levels c.args.paths.now c.args.self.low c.args.self.high) c.args.path.now c.loop-length.length c.has_table.result c.loop-length-test.true c.has_table.ensures c.if-not-has_table.false ∙ c.loop-length.invariant
