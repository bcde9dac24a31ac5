use Rattle.std.proofs.Common.{length, get_or, cond, refl, sym, ap, ◌∙◌}
use Rattle.std.proofs.lemmas.List.{get_or_read}
use Rattle.x86_64_mappers.proofs.Way.Paths.{begins_from}
use Rattle.x86_64_mappers.proofs.walk.clean_up.index_in_table.Goals as goal

pub returns-then-starts_with-clause-index : goal.returns-then-starts_with-clause-index
returns-then-starts_with-clause-index c =
    let q = c.args.path.now in
    let page = c.args.page.now in
    c.from.ensures.0 ∙ get_or_read page (length q) c.index-page-path.result c.requires c.index-page-path.is 0
    ∙ ap (λ b. cond b (get_or page (length q) 0) c.args.other) (sym c.if-starts_with.true ∙ c.starts_with.ensures.value ∙ begins_from _ (λ i j. refl) q page)

pub returns-else-starts_with-clause-index : goal.returns-else-starts_with-clause-index
returns-else-starts_with-clause-index c =
    let q = c.args.path.now in
    let page = c.args.page.now in
    ap (λ b. cond b (get_or page (length q) 0) c.args.other) (sym c.if-starts_with.false ∙ c.starts_with.ensures.value ∙ begins_from _ (λ i j. refl) q page)
