use Rattle.std.proofs.Common.{rules, ◌∙◌, ap, filter, subst}
use Rattle.std.specs.Prelude.{OnOk}
use Rattle.x86_64_mappings.specs.Selections.{is_mapping_selected}
use Rattle.x86_64_mappings.specs.Wanted.{asked_of, asked_mappings}
use Rattle.x86_64_mappings.specs.private.EachTable.{IsPassedOn}
use Rattle.x86_64_mappings.specs.private.Targets.{asked_in}
use Rattle.x86_64_mappings.proofs.Tables.{asked_here}
use Rattle.x86_64_mappings.proofs.summaries.mappings.visit_selected_mappings.Goals as goal

pub returns : goal.returns
returns g c =
    let L = g.L.LevelCount.LEVELS in
    let asked = asked_of g.T.TableMemory.tables g.P.PageTableFrameMapping.places c.args.summaries.now in
    let passes = is_mapping_selected L c.args.selection in
    let visited : OnOk c.visit_table.result (IsPassedOn g.V.Visitor.Visits c.new-each.result c.visit_table.new.visitor (filter passes (asked_mappings asked L c.args.root))) =
    subst (λ ms. OnOk c.visit_table.result (IsPassedOn g.V.Visitor.Visits c.new-each.result c.visit_table.new.visitor (filter passes ms)))
    (ap (asked_in asked) c.root-table.ensures ∙ asked_here asked L c.args.root)
    c.visit_table.ensures in
    search rules
