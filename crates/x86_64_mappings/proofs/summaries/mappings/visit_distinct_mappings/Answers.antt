use Rattle.std.proofs.Common.{rules, ◌≡◌, ◌∙◌, false, true≢false, filter, sym, ap, subst}
use Rattle.std.specs.HashSet.{contains}
use Rattle.std.specs.List.{list_any}
use Rattle.x86_64_mappings.specs.Kinds.{distinct}
use Rattle.x86_64_mappings.specs.Selections.{is_mapping_selected}
use Rattle.x86_64_mappings.specs.Wanted.{asked_of, asked_mappings}
use Rattle.x86_64_mappings.specs.private.Distinct.{kind_eq, new_among, table_eq, table_kind, AreByKind, AreKnown}
use Rattle.x86_64_mappings.specs.private.Targets.{asked_in, selected_in}
use Rattle.x86_64_mappings.proofs.Distinct.{by_kind, new_first}
use Rattle.x86_64_mappings.proofs.Tables.{asked_here}
use Rattle.x86_64_mappings.proofs.summaries.mappings.visit_distinct_mappings.Goals as goal

pub returns : goal.returns
returns g c =
    let L = g.L.LevelCount.LEVELS in
    let Visits = g.V.Visitor.Visits in
    let asked = asked_of g.T.TableMemory.tables g.P.PageTableFrameMapping.places c.args.summaries.now in
    let s = c.args.selection in
    let visited = selected_in L s asked in
    let old = c.new-firsts.result in
    let new = c.visit_table.new.visitor in
    let all = filter (is_mapping_selected L s) (asked_mappings asked L c.args.root) in
    let its : visited c.root-table.result ≡ all =
    ap (filter (is_mapping_selected L s)) (ap (asked_in asked) c.root-table.ensures ∙ asked_here asked L c.args.root) in
    let seen : contains kind_eq old.memo.seen ≡ (λ k. false) = ap (λ ks k. list_any (kind_eq k) ks) c.new-firsts.ensures.seen in
    let known : AreKnown L visited old = λ t is covered.
    absurd (true≢false (sym is ∙ ap (list_any (table_eq (table_kind t))) c.new-firsts.ensures.known)) in
    let kinds : AreByKind L old.selection visited = subst (λ s. AreByKind L s visited) (sym c.new-firsts.ensures.selection) (by_kind L s asked) in
    let after = c.in_ok-visit_table.ensures kinds known in
    let name : new.visitor.ghost_name ≡ old.visitor.ghost_name = after.visitor in
    let put : Visits c.args.visitor.now new.visitor.now (distinct all) =
    subst (λ v. Visits v new.visitor.now (distinct all)) c.new-firsts.ensures.now
    (subst (Visits old.visitor.now new.visitor.now) ((λ i. new_among (seen i) (its i)) ∙ new_first all) after.passed) in
    search rules
