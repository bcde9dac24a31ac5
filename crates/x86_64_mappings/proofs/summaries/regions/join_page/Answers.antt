use Rattle.std.proofs.Common.{sym, ◌∙◌}
use Rattle.std.proofs.lemmas.Result.{on_ok_weaker}
use Rattle.x86_64_mappings.specs.Wanted.{is_wanted}
use Rattle.x86_64_mappings.proofs.Joined.{joins_region, joins_wanted, joins_unwanted}
use Rattle.x86_64_mappings.proofs.summaries.regions.join_page.Goals as goal

pub returns-then-wants : goal.returns-then-wants
returns-then-wants g c =
    on_ok_weaker c.visit_joined.result
    (λ visited. joins_wanted g.V.Visitor.Visits g.L.LevelCount.LEVELS (is_wanted c.args.query.now.wanted) c.args.page.now c.of.result c.of.ensures
    (sym c.wants.ensures ∙ c.if-wants.true) _ _ _ _
    (joins_region g.V.Visitor.Visits g.L.LevelCount.LEVELS c.of.result _ c.join.result _ _ _ c.join.ensures.given c.join.ensures.held visited))
    c.visit_joined.ensures

pub returns : goal.returns
returns g c =
    joins_unwanted g.V.Visitor.Visits g.L.LevelCount.LEVELS g.met.V.Visitor.none (is_wanted c.args.query.now.wanted) c.args.page.now
    (sym c.wants.ensures ∙ c.if-wants.false) _ _
