use Rattle.std.proofs.Common.{sym, ap, ◌∙◌, ◌++◌, append-nil, ◌-◌, ◌+◌, [], ◌∷◌}
use Rattle.x86_64_model.specs.Path.{paths_below}
use Rattle.x86_64_model.specs.CleanUp.{in_range}
use Rattle.test_reference.specs.Cleaning.{frames}
use Rattle.test_reference.proofs.CleanUps.{pending, pending_start, pending_end, pending_passed, pending_done, nothing_deep}
use Rattle.test_reference.proofs.cleaning.CleanUpRange.+add_frames.Goals as goal
use Rattle.test_reference.proofs.cleaning.CleanUpRange.+add_frames.Goals.{then-has_table+in_ok-add_frames+in_ok-add_frame, else-has_table}

pub returns-then-depth-eq0 : goal.returns-then-depth-eq0
returns-then-depth-eq0 t c = sym (ap (λ fs. c.args.back.now.items ++ fs) (nothing_deep c.args.self.levels c.args.paths.now c.args.self.low c.args.self.high c.args.depth c.args.path.now c.if-depth-eq0.true) ∙ append-nil c.args.back.now.items)

pub loop-index-init : goal.loop-index-init
loop-index-init t c = ap (λ fs. c.args.back.now.items ++ fs) (pending_start c.args.self.levels c.args.paths.now c.args.self.low c.args.self.high c.args.depth c.args.path.now c.if-depth-eq0.false)

pub loop-index-preserved : goal.loop-index-preserved
loop-index-preserved t c = elim c.if-has_table.branch [
  | then-has_table+in_ok-add_frames+in_ok-add_frame w ↦ ap (λ v. v.items ++ pending c.args.self.levels c.args.paths.now c.args.self.low c.args.self.high c.args.depth c.args.path.now (c.loop-index.index + 1)) w.back-is
      ∙ pending_done c.args.self.levels c.args.paths.now c.args.self.low c.args.self.high c.args.depth c.args.path.now c.loop-index.index c.in_ok-below.below.items c.loop-index.back.items w.add_frames.new.back.items w.add_frame.new.back.items c.loop-index-test.true c.in_ok-below.ensures
      (w.in_ok-add_frames.ensures ∙ ap (λ q. c.loop-index.back.items ++ frames c.args.self.levels c.args.paths.now c.args.self.low c.args.self.high (paths_below (c.args.depth - 1) q)) w.deref-then-has_table.ensures.value)
      (w.in_ok-add_frame.ensures ∙ ap (λ q. w.add_frames.new.back.items ++ frames c.args.self.levels c.args.paths.now c.args.self.low c.args.self.high (q ∷ [])) w.deref-then-has_table-2.ensures.value)
      ∙ c.loop-index.invariant
  | else-has_table w ↦ ap (λ v. v.items ++ pending c.args.self.levels c.args.paths.now c.args.self.low c.args.self.high c.args.depth c.args.path.now (c.loop-index.index + 1)) w.back-is
      ∙ ap (λ fs. c.loop-index.back.items ++ fs) (pending_passed c.args.self.levels c.args.paths.now c.args.self.low c.args.self.high c.args.depth c.args.path.now c.loop-index.index c.has_table.result c.loop-index-test.true (c.has_table.ensures ∙ ap (in_range c.args.self.levels c.args.paths.now c.args.self.low c.args.self.high) (c.deref.ensures.value ∙ c.in_ok-below.ensures)) w.if-has_table.false)
      ∙ c.loop-index.invariant
]

pub returns : goal.returns
returns t c = sym (append-nil c.loop-index.back.items) ∙ ap (λ fs. c.loop-index.back.items ++ fs) (sym (pending_end c.args.self.levels c.args.paths.now c.args.self.low c.args.self.high c.args.depth c.args.path.now c.loop-index.index c.loop-index-test.false)) ∙ c.loop-index.invariant
