use Rattle.std.proofs.Common.{◌≡◌, ◌+◌, ◌-◌, filter, map, sym, ap, ◌∙◌}
use Rattle.std.proofs.lemmas.Bool.{eq-eqb, not-true}
use Rattle.x86_64_model.specs.Position.{position_count}
use Rattle.x86_64_tables.specs.Rights.{both}
use Rattle.x86_64_mappings.specs.Selections.{includes, is_mapping_selected}
use Rattle.x86_64_mappings.specs.Wanted.{asked_of, asked_mappings}
use Rattle.x86_64_mappings.specs.private.Placed.{placed}
use Rattle.x86_64_mappings.proofs.Spans.{span_of_table}
use Rattle.x86_64_mappings.proofs.Summed.{none_counted}
use Rattle.x86_64_mappings.proofs.Unselected.{none_allowed_above, none_allowed_below, none_reached}
use Rattle.x86_64_mappings.proofs.summaries.mappings.maps_nothing.Goals as goal

pub returns-then-not-reaches : goal.returns-then-not-reaches
returns-then-not-reaches g c =
    let L = g.L.LevelCount.LEVELS in
    let asked = asked_of g.T.TableMemory.tables g.P.PageTableFrameMapping.places c.args.summaries.now in
    let t = c.args.table.now in
    let last = t.start + (c.span.result - 1) in
    let ends : last ≡ t.start + (position_count t.level - 1) = ap (λ n. t.start + (n - 1)) (c.span.ensures ∙ span_of_table t.level) in
    λ _. none_reached L c.args.selection.now asked t.level t.frame t.start t.above last ends (sym c.reaches.ensures ∙ c.if-not-reaches.true)

pub returns-in-Some : goal.returns-in-Some
returns-in-Some g c =
    let asked = asked_of g.T.TableMemory.tables g.P.PageTableFrameMapping.places c.args.summaries.now in
    let t = c.args.table.now in
    let none = none_counted (asked_mappings asked t.level t.frame) c.in-Some.summary c.in-Some.ensures (eq-eqb c.in-Some.summary.count 0 c.if-summary-eq0.true) in
    λ _. ap (λ ms. filter (is_mapping_selected g.L.LevelCount.LEVELS c.args.selection.now) (map (placed t.start t.above) ms)) none

pub returns-in-Some-2 : goal.returns-in-Some-2
returns-in-Some-2 g c =
    let asked = asked_of g.T.TableMemory.tables g.P.PageTableFrameMapping.places c.args.summaries.now in
    let t = c.args.table.now in
    let s = c.args.selection.now in
    λ is. none_allowed_below g.L.LevelCount.LEVELS s t.start t.above (asked_mappings asked t.level t.frame)
    (ap (λ summary. includes (both t.above summary.some) s.rights) (sym c.in-Some.ensures) ∙ ap (λ r. includes r s.rights) (sym c.and.ensures)
    ∙ sym c.includes.ensures ∙ not-true c.includes.result is)

pub returns-in-None : goal.returns-in-None
returns-in-None g c =
    let asked = asked_of g.T.TableMemory.tables g.P.PageTableFrameMapping.places c.args.summaries.now in
    let t = c.args.table.now in
    λ is. none_allowed_above g.L.LevelCount.LEVELS c.args.selection.now t.start t.above (asked_mappings asked t.level t.frame)
    (sym c.includes-in-None.ensures ∙ not-true c.includes-in-None.result is)
