use Rattle.std.proofs.Common.{ap, ◌∙◌, not, ◌||◌}
use Rattle.std.specs.List.{list_all}
use Rattle.std.specs.FinMap.{keys}
use Rattle.x86_64_model.specs.Path.{is_below}
use Rattle.x86_64_model.specs.CleanUp.{in_range}
use Rattle.test_reference.proofs.CleanUps.{keys_items}
use Rattle.test_reference.proofs.cleaning.CleanUpRange.has_all_below.Goals as goal

pub returns : goal.returns
returns c = c.has_items.ensures
    ∙ ap (list_all (λ item. not (is_below c.args.path.now item.path.items) || in_range c.args.self.levels c.args.paths.now c.args.self.low c.args.self.high item.path.items)) c.deref.ensures.value
    ∙ keys_items (λ p. not (is_below c.args.path.now p) || in_range c.args.self.levels c.args.paths.now c.args.self.low c.args.self.high p) c.paths.inside.items.items
    ∙ ap (λ M. list_all (λ p. not (is_below c.args.path.now p) || in_range c.args.self.levels c.args.paths.now c.args.self.low c.args.self.high p) (keys M)) c.paths.view_is
