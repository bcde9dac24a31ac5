use Rattle.std.proofs.Common.{◌≡◌, true, rules, ap, map, ◌∙◌, subst}
use Rattle.std.specs.Option.{IfSome}
use Rattle.std.proofs.lemmas.Bool.{eq-eqb}
use Rattle.x86_64_model.specs.Regions.{same_rights}
use Rattle.x86_64_model.proofs.Lemmas.Mappings.Regions.{same_rights_is}
use Rattle.x86_64_mappings.specs.Summaries.{summary_of}
use Rattle.x86_64_mappings.specs.Wanted.{asked_mappings}
use Rattle.x86_64_mappings.specs.private.Merged.{lessened}
use Rattle.x86_64_mappings.specs.private.Placed.{placed}
use Rattle.x86_64_mappings.proofs.Summed.{none_counted}
use Rattle.x86_64_mappings.proofs.Whole.{whole_span}
use Rattle.x86_64_mappings.proofs.summaries.regions.extent.extent_of.Goals as goal

pub returns-then-summary-eq0-clause-extent : goal.returns-then-summary-eq0-clause-extent
returns-then-summary-eq0-clause-extent c asked frame start known =
    let mappings = asked_mappings asked c.args.level frame in
    let its : c.in-Some.summary ≡ summary_of mappings = subst (λ o. IfSome o (λ summary. summary ≡ summary_of mappings)) c.in-Some.is known in
    ap (map (placed start c.args.above)) (none_counted mappings c.in-Some.summary its (eq-eqb c.in-Some.summary.count 0 c.if-summary-eq0.true))

pub returns-then-eq-clause-extent : goal.returns-then-eq-clause-extent
returns-then-eq-clause-extent c asked frame start known =
    let mappings = asked_mappings asked c.args.level frame in
    let its : c.in-Some.summary ≡ summary_of mappings = subst (λ o. IfSome o (λ summary. summary ≡ summary_of mappings)) c.in-Some.is known in
    let below = c.below-summary.result in
    let same : below.some ≡ below.all = same_rights_is below.some below.all (let e : same_rights below.some below.all ≡ true = search rules in e) in
    whole_span asked c.args.level frame start c.args.above below (c.below-summary.ensures ∙ ap (lessened c.args.above) its)
    (c.if-summary-span.true ∙ c.span.ensures) same
