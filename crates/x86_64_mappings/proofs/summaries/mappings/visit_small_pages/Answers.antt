use Rattle.std.proofs.Common.{◌≡◌, ◌<◌, ◌+◌, ◌*◌, ◌%◌, cond, [], ◌∷◌, filter, length, get_or, take, sym, ap, ◌∙◌, subst, arith}
use Rattle.std.proofs.lemmas.List.{get_or_read}
use Rattle.x86_64_model.specs.Position.{span}
use Rattle.x86_64_mappings.specs.Selections.{is_mapping_selected}
use Rattle.x86_64_mappings.specs.Wanted.{asked_of, is_wanted}
use Rattle.x86_64_mappings.specs.private.Known.{asking}
use Rattle.x86_64_mappings.specs.private.Targets.{asked_by, asked_on}
use Rattle.x86_64_mappings.proofs.Tables.{by_nothing, by_page}
use Rattle.x86_64_mappings.proofs.Visited.{start_aligned, small_page, small_nothing, kept_more, kept_page, kept_same}
use Rattle.x86_64_mappings.proofs.summaries.mappings.visit_small_pages.Goals as goal
use Rattle.x86_64_mappings.proofs.summaries.mappings.visit_small_pages.Goals.{then-has_flag+then-takes+in_ok-visit, then-has_flag+else-takes, else-has_flag}

pub loop-entry-preserved : goal.loop-entry-preserved
loop-entry-preserved g c =
    let asked = asked_of g.T.TableMemory.tables g.P.PageTableFrameMapping.places (asking c.args.query.now) in
    let r = c.args.above in
    let words = c.args.entries.now in
    let s = c.args.start in
    let i = c.loop-entry.entry-index in
    let e = c.entry-item.result in
    let less : i < length words = c.loop-entry-test.true in
    let entry : e ≡ get_or words i 0 = get_or_read words i e less c.entry-item.is 0 in
    let start : c.loop-entry.start ≡ s + i * span 1 = c.loop-entry.invariant.start in
    let aligned : c.loop-entry.start % span 1 ≡ 0 = ap (λ s. s % span 1) start ∙ start_aligned s i (span 1) c.requires.aligned in
    let here : asked_by asked 1 (s + i * span 1) r (get_or words i 0) ≡ asked_by asked 1 c.loop-entry.start r e = (λ k. asked_by asked 1 (sym start k) r (sym entry k)) in
    let old = c.args.visitor.now in
    let passes = is_mapping_selected g.L.LevelCount.LEVELS c.args.selection.now in
    let front = filter passes (asked_on asked 1 s r (take i words)) in
    record {
      start = omega (arith, start);
      visited = λ visited. elim c.if-has_flag.branch [
        | then-has_flag+then-takes+in_ok-visit w ↦
            let m = w.of_page-page.result in
            let page = by_page asked 1 c.loop-entry.start r e m (small_page e (sym c.has_flag.ensures ∙ w.if-has_flag.true)) w.of_page-page.ensures aligned in
            subst (λ v. g.V.TableVisitor.Visits visited old v (filter passes (asked_on asked 1 s r (take (i + 1) words)))) (sym w.visitor-is)
            (kept_more asked 1 s r words i less (g.V.TableVisitor.Visits visited old w.visit.new.self) passes (m ∷ [])
            (ap (filter passes) (here ∙ page) ∙ kept_page passes (is_wanted asked.wanted m) m ∙ ap (λ b. cond b (m ∷ []) []) (sym w.takes.ensures ∙ w.if-takes.true))
            (g.met.V.TableVisitor.both visited old c.loop-entry.visitor w.visit.new.self front (m ∷ []) (c.loop-entry.invariant.visited visited) (w.in_ok-visit.ensures visited)))
        | then-has_flag+else-takes w ↦
            let m = w.of_page-page.result in
            let page = by_page asked 1 c.loop-entry.start r e m (small_page e (sym c.has_flag.ensures ∙ w.if-has_flag.true)) w.of_page-page.ensures aligned in
            subst (λ v. g.V.TableVisitor.Visits visited old v (filter passes (asked_on asked 1 s r (take (i + 1) words)))) (sym w.visitor-is)
            (kept_same asked 1 s r words i less (g.V.TableVisitor.Visits visited old c.loop-entry.visitor) passes
            (ap (filter passes) (here ∙ page) ∙ kept_page passes (is_wanted asked.wanted m) m ∙ ap (λ b. cond b (m ∷ []) []) (sym w.takes.ensures ∙ w.if-takes.false))
            (c.loop-entry.invariant.visited visited))
        | else-has_flag w ↦
            subst (λ v. g.V.TableVisitor.Visits visited old v (filter passes (asked_on asked 1 s r (take (i + 1) words)))) (sym w.visitor-is)
            (kept_same asked 1 s r words i less (g.V.TableVisitor.Visits visited old c.loop-entry.visitor) passes
            (ap (filter passes) (here ∙ by_nothing asked 1 c.loop-entry.start r e (small_nothing e (sym c.has_flag.ensures ∙ w.if-has_flag.false))))
            (c.loop-entry.invariant.visited visited))
      ];
    }
