use Rattle.std.proofs.Common.{sym, ap, ◌∙◌, ◌&&◌}
use Rattle.std.specs.List.{list_any}
use Rattle.x86_64_model.specs.Entry.{used, huge}
use Rattle.x86_64_model.specs.PathMap.{entry}
use Rattle.test_reference.proofs.Parents.{parents_rest}
use Rattle.test_reference.proofs.MapCases.{any_later}
use Rattle.test_reference.proofs.maps.has_huge_parent.Goals as goal

pub loop-length-init : goal.loop-length-init
loop-length-init c = ap (list_any (λ p. used (entry c.args.paths.now p) && huge (entry c.args.paths.now p))) (sym (parents_rest c.args.path.now))

pub loop-length-preserved : goal.loop-length-preserved
loop-length-preserved c = any_later (λ p. used (entry c.args.paths.now p) && huge (entry c.args.paths.now p)) c.args.path.now c.loop-length.length c.loop-length-test.true (ap (λ e. used e && huge e) (sym c.entry.ensures) ∙ sym c.if-is_used_and_huge.ensures) ∙ c.loop-length.invariant
