use Rattle.std.proofs.Common.{sym, ap, ◌∙◌, not, ◌++◌, append-nil, filter}
use Rattle.std.proofs.lemmas.List.{drop_all}
use Rattle.std.specs.FinMap.{retain_keys}
use Rattle.x86_64_model.specs.CleanUp.{is_removed}
use Rattle.test_reference.specs.PathEntries.{pairs}
use Rattle.test_reference.specs.Cleaning.{stays}
use Rattle.test_reference.proofs.CleanUps.{retained}
use Rattle.test_reference.proofs.cleaning.CleanUpRange.left_entries.Goals as goal

pub returns : goal.returns
returns c = retained (λ q. not (is_removed c.args.self.levels c.args.paths.now c.args.self.low c.args.self.high q)) c.paths.inside.items.items c.loop-item.left.items
    (sym (append-nil (pairs c.loop-item.left.items)) ∙ ap (λ items. pairs c.loop-item.left.items ++ pairs (filter (stays c.args.self.levels c.args.paths.now c.args.self.low c.args.self.high) items)) (sym (drop_all c.loop-item.item-index c.deref-item-items.result.now c.loop-item-test.false)) ∙ c.loop-item.invariant ∙ ap (λ items. pairs (filter (stays c.args.self.levels c.args.paths.now c.args.self.low c.args.self.high) items)) c.deref-item-items.ensures.value)
    ∙ ap (λ M. retain_keys M (λ q. not (is_removed c.args.self.levels c.args.paths.now c.args.self.low c.args.self.high q))) c.paths.view_is
