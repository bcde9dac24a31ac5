use Rattle.std.proofs.Common.{sym, ap, ◌∙◌, filter, ◌+◌, ◌++◌}
use Rattle.x86_64_model.specs.Entry.{used}
use Rattle.test_reference.specs.Fronts.{fronts, is_wanted_front}
use Rattle.test_reference.proofs.Parents.{parents_rest, rest}
use Rattle.test_reference.proofs.MapCases.{kept, passed, is_wanted_true, is_wanted_false}
use Rattle.test_reference.proofs.maps.parents_where.Goals as goal
use Rattle.test_reference.proofs.maps.parents_where.Goals.{then-is_used-used+in_ok-push, else-is_used-used}

pub loop-length-init : goal.loop-length-init
loop-length-init c = (λ i. fronts c.args.path.now (c.new-lengths.ensures.items i) ++ filter (is_wanted_front c.args.paths.now c.args.used) (sym (parents_rest c.args.path.now) i))

pub loop-length-preserved : goal.loop-length-preserved
loop-length-preserved c = elim c.if-is_used-used.branch [
  | then-is_used-used+in_ok-push w ↦ ap (λ v. fronts c.args.path.now v.items ++ filter (is_wanted_front c.args.paths.now c.args.used) (rest c.args.path.now (c.loop-length.length + 1))) w.lengths-is
      ∙ ap (λ ns. fronts c.args.path.now ns ++ filter (is_wanted_front c.args.paths.now c.args.used) (rest c.args.path.now (c.loop-length.length + 1))) w.in_ok-push.ensures.items
      ∙ kept (is_wanted_front c.args.paths.now c.args.used) c.args.path.now c.loop-length.lengths.items c.loop-length.length c.loop-length-test.true (is_wanted_true c.args.paths.now c.args.used c.is_used.result _ (c.is_used.ensures ∙ ap used c.entry.ensures) w.if-is_used-used.true)
      ∙ c.loop-length.invariant
  | else-is_used-used w ↦ ap (λ v. fronts c.args.path.now v.items ++ filter (is_wanted_front c.args.paths.now c.args.used) (rest c.args.path.now (c.loop-length.length + 1))) w.lengths-is
      ∙ passed (is_wanted_front c.args.paths.now c.args.used) c.args.path.now c.loop-length.lengths.items c.loop-length.length c.loop-length-test.true (is_wanted_false c.args.paths.now c.args.used c.is_used.result _ (c.is_used.ensures ∙ ap used c.entry.ensures) w.if-is_used-used.false)
      ∙ c.loop-length.invariant
]
