use Rattle.std.proofs.Common.{subst}
use Rattle.std.specs.Prelude.{OnOk}
use Rattle.x86_64_mappings.specs.Wanted.{asked_of, asked_mappings}
use Rattle.x86_64_mappings.proofs.Unselected.{all_selected}
use Rattle.x86_64_mappings.proofs.summaries.mappings.visit_mappings.Goals as goal

pub returns : goal.returns
returns g c =
    let L = g.L.LevelCount.LEVELS in
    let asked = asked_of g.T.TableMemory.tables g.P.PageTableFrameMapping.places c.args.summaries.now in
    subst (λ ms. OnOk c.visit_selected_mappings.result (g.V.Visitor.Visits c.args.visitor.now c.visit_selected_mappings.new.visitor ms))
    (all_selected L (asked_mappings asked L c.args.root))
    c.visit_selected_mappings.ensures
