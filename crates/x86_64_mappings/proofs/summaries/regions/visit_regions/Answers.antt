use Rattle.std.proofs.Common.{None, ◌∙◌, ap, subst, subst₂}
use Rattle.std.proofs.lemmas.Result.{on_ok_weaker}
use Rattle.x86_64_mappings.specs.Wanted.{asked_of, asked_mappings}
use Rattle.x86_64_mappings.specs.private.Joined.{Joins, listed}
use Rattle.x86_64_mappings.specs.private.Targets.{asked_in}
use Rattle.x86_64_mappings.proofs.Joined.{joins_last}
use Rattle.x86_64_mappings.proofs.Tables.{asked_here}
use Rattle.x86_64_mappings.proofs.summaries.regions.visit_regions.Goals as goal

pub returns : goal.returns
returns g c =
    let L = g.L.LevelCount.LEVELS in
    let visits = g.V.Visitor.Visits in
    let asked = asked_of g.T.TableMemory.tables g.P.PageTableFrameMapping.places c.args.summaries.now in
    let all = asked_mappings asked L c.args.root in
    let joins : Joins visits L all None c.args.visitor.now c.join_table.new.joiner c.join_table.new.visitor =
    subst₂ (λ ms held. Joins visits L ms held c.args.visitor.now c.join_table.new.joiner c.join_table.new.visitor)
    (ap (asked_in asked) c.root-table.ensures ∙ asked_here asked L c.args.root) c.new-joiner.ensures
    c.in_ok-join_table.ensures in
    on_ok_weaker c.visit_joined.result
    (λ visited. joins_last visits L g.met.V.Visitor.both all _ _ _ _ joins (subst (λ held. visits c.join_table.new.visitor c.visit_joined.new.visitor (listed held)) c.finish.ensures.given visited))
    c.visit_joined.ensures
