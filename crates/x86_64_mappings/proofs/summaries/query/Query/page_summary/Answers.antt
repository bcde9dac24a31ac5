use Rattle.std.proofs.Common.{[], ◌∷◌, filter, sym, ap, ◌∙◌}
use Rattle.x86_64_mappings.specs.Summaries.{summary_of}
use Rattle.x86_64_mappings.specs.Wanted.{is_wanted}
use Rattle.x86_64_mappings.proofs.Summed.{one_summary, of_wanted, of_unwanted}
use Rattle.x86_64_mappings.proofs.summaries.query.Query.page_summary.Goals as goal

pub returns-then-wants : goal.returns-then-wants
returns-then-wants g c start =
    let m = c.of_page-page.result in
    let wanted = c.args.self.now.wanted in
    c.of_one.ensures
    ∙ ap (λ bytes. one_summary bytes c.page.inside.rights) c.size.ensures
    ∙ of_wanted wanted m start c.page.inside.rights (ap (λ m. m.rights) c.page.view_is) (sym c.wants.ensures ∙ c.if-wants.true)
    ∙ ap (λ m. summary_of (filter (is_wanted wanted) (record m { start = start } ∷ []))) c.of_page-page.ensures

pub returns-else-wants : goal.returns-else-wants
returns-else-wants g c start =
    let m = c.of_page-page.result in
    let wanted = c.args.self.now.wanted in
    of_unwanted wanted m start (sym c.wants.ensures ∙ c.if-wants.false)
    ∙ ap (λ m. summary_of (filter (is_wanted wanted) (record m { start = start } ∷ []))) c.of_page-page.ensures
