use Rattle.std.proofs.Common.{◌≡◌, ◌<◌, ◌≤◌, ◌+◌, ◌-◌, ◌*◌, ◌%◌, ◌^◌, ◌&&◌, true, false, cond, [], ◌∷◌, length, get_or, filter, map, take, Some, None, sym, ap, ◌∙◌, subst, arith, rules}
use Rattle.std.specs.Prelude.{OnOk}
use Rattle.std.proofs.Math.Pow.{pow_mono}
use Rattle.std.proofs.lemmas.List.{get_or_read, take_all}
use Rattle.std.proofs.lemmas.Nat.{pow_pos}
use Rattle.std.proofs.lemmas.Result.{IfOk-from_err, on_ok_weaker}
use Rattle.x86_64_model.specs.Position.{span, position_count}
use Rattle.x86_64_model.specs.Mappings.{granted}
use Rattle.x86_64_mappings.specs.Selections.{is_mapping_selected}
use Rattle.x86_64_mappings.specs.Wanted.{asked_of, asked_mappings, is_wanted}
use Rattle.x86_64_mappings.specs.private.Placed.{placed}
use Rattle.x86_64_mappings.specs.private.Targets.{asked_by, asked_on, selected_in}
use Rattle.x86_64_mappings.proofs.Spans.{below_fits, span_of_table}
use Rattle.x86_64_mappings.proofs.Tables.{asked_none, asked_table, by_nothing, by_page, by_table, none_copied}
use Rattle.x86_64_mappings.proofs.Visited.{next_start, start_inside, start_aligned, span_below, aligned_below, kept_more, kept_page, kept_same}
use Rattle.x86_64_mappings.proofs.summaries.mappings.+visit_table.Goals as goal
use Rattle.x86_64_mappings.proofs.summaries.mappings.+visit_table.Goals.{in-Page+then-takes+in_ok-visit-in-Page, in-Page+else-takes, in-Table+then-not-maps_nothing+then-not-passes_over+in_ok-visit_table-in-Table+in_ok-remember-in-Table, in-Table+else-not-maps_nothing, else-not-maps_nothing-via-then-not-maps_nothing+else-not-passes_over, else-not-maps_nothing-via-else-not-maps_nothing, in-Nothing}

pub returns-in_default : goal.returns-in_default
returns-in_default g t c =
    let asked = asked_of g.T.TableMemory.tables g.P.PageTableFrameMapping.places c.args.summaries.now in
    let none : asked.words c.args.table.now.frame ≡ None =
    ap (λ a. (asked_of g.T.TableMemory.tables g.P.PageTableFrameMapping.places a).words c.args.table.now.frame) (sym c.query-query.ensures)
    ∙ sym c.table.ensures ∙ none_copied c.table.result c.in_default.not-Some in
    let visited = selected_in g.L.LevelCount.LEVELS c.args.selection.now asked in
    subst (g.V.TableVisitor.Visits visited c.args.visitor.now c.args.visitor.now)
    (sym (ap (λ ms. filter (is_mapping_selected g.L.LevelCount.LEVELS c.args.selection.now) (map (placed c.args.table.now.start c.args.table.now.above) ms))
    (asked_none asked c.args.table.now.level c.args.table.now.frame none)))
    (g.met.V.TableVisitor.none visited c.args.visitor.now)

pub returns-then-table-eq1 : goal.returns-then-table-eq1
returns-then-table-eq1 g t c =
    let asking_by = asked_of g.T.TableMemory.tables g.P.PageTableFrameMapping.places in
    let asked = asking_by c.args.summaries.now in
    let words = c.as_slice-entries.result.now in
    let r = c.args.table.now.above in
    let there : asked.words c.args.table.now.frame ≡ Some words =
    ap (λ a. (asking_by a).words c.args.table.now.frame) (sym c.query-query.ensures) ∙ sym c.in-Some.ensures ∙ ap Some (sym c.as_slice-entries.ensures.words) in
    let size : length words ≡ 512 = ap length c.as_slice-entries.ensures.words ∙ c.as_slice-entries.ensures.size in
    let passes = is_mapping_selected g.L.LevelCount.LEVELS c.args.selection.now in
    let visited = selected_in g.L.LevelCount.LEVELS c.args.selection.now asked in
    subst (λ ms. OnOk c.visit_small_pages.result (g.V.TableVisitor.Visits visited c.args.visitor.now c.visit_small_pages.new.visitor (filter passes ms)))
    (ap (λ a. asked_on (asking_by a) 1 c.args.table.now.start r words) c.query-query.ensures
    ∙ ap (λ level. asked_on asked level c.args.table.now.start r words) (sym c.if-table-eq1.true)
    ∙ sym (asked_table asked c.args.table.now.level c.args.table.now.start r c.args.table.now.frame words c.requires.low there size))
    (on_ok_weaker c.visit_small_pages.result (λ visits. visits visited) c.visit_small_pages.ensures)

pub visit_table-requires : goal.visit_table-requires
visit_table-requires g t c κs within =
    let level = c.args.table.now.level in
    let w = span level in
    let s = c.args.table.now.start in
    let i = c.loop-entry.entry-index in
    let low : 1 < level = c.in-Table.ensures.table tt in
    let start : c.loop-entry.start ≡ s + i * w = c.loop-entry.invariant.start in
    let size : length c.as_slice-entries.result.now ≡ 512 = ap length c.as_slice-entries.ensures.words ∙ c.as_slice-entries.ensures.size in
    let inner = start_inside s i w (position_count g.L.LevelCount.LEVELS) (omega (arith, c.loop-entry-test.true, size)) c.requires.inside in
    let below = span_below level low in
    let aligned : c.loop-entry.start % span (level - 1) ≡ 0 = aligned_below level c.loop-entry.start low (ap (λ s. s % w) start ∙ start_aligned s i w c.requires.aligned) in
    let inside : c.loop-entry.start + 512 * span (level - 1) ≤ position_count g.L.LevelCount.LEVELS = omega (arith, start, inner, below) in
    search rules

pub passes_over-requires-clause-inside : goal.passes_over-requires-clause-inside
passes_over-requires-clause-inside g t c =
    let size : length c.as_slice-entries.result.now ≡ 512 = ap length c.as_slice-entries.ensures.words ∙ c.as_slice-entries.ensures.size in
    subst (λ table. table.start + position_count table.level ≤ position_count 5) (sym c.below-below.ensures)
    (below_fits g.L.LevelCount.LEVELS c.args.table.now.level c.args.table.now.start c.loop-entry.entry-index c.loop-entry.start
    g.L.LevelCount.at_most_five (c.in-Table.ensures.table tt) (omega (arith, c.loop-entry-test.true, size)) c.loop-entry.invariant.start c.requires.inside)

pub remember-requires-clause-inside : goal.remember-requires-clause-inside
remember-requires-clause-inside g t c =
    let size : length c.as_slice-entries.result.now ≡ 512 = ap length c.as_slice-entries.ensures.words ∙ c.as_slice-entries.ensures.size in
    subst (λ table. table.start + position_count table.level ≤ position_count 5) (sym c.below-below.ensures)
    (below_fits g.L.LevelCount.LEVELS c.args.table.now.level c.args.table.now.start c.loop-entry.entry-index c.loop-entry.start
    g.L.LevelCount.at_most_five (c.in-Table.ensures.table tt) (omega (arith, c.loop-entry-test.true, size)) c.loop-entry.invariant.start c.requires.inside)

pub overflow_add-start : goal.overflow_add-start
overflow_add-start g t c =
    let w = span c.args.table.now.level in
    let most : 12 + 9 * g.L.LevelCount.LEVELS ≤ 57 = (let five = g.L.LevelCount.at_most_five in omega (arith, five)) in
    let few : position_count g.L.LevelCount.LEVELS ≤ 2 ^ 57 = pow_mono {j = 57} most in
    let size : length c.as_slice-entries.result.now ≡ 512 = ap length c.as_slice-entries.ensures.words ∙ c.as_slice-entries.ensures.size in
    let within = start_inside c.args.table.now.start c.loop-entry.entry-index w (position_count g.L.LevelCount.LEVELS) (omega (arith, c.loop-entry-test.true, size)) c.requires.inside in
    omega (arith, c.loop-entry.invariant.start, c.span-size.ensures, within, few)

pub loop-entry-preserved : goal.loop-entry-preserved
loop-entry-preserved g t c =
    let asking_by = asked_of g.T.TableMemory.tables g.P.PageTableFrameMapping.places in
    let asked = asking_by c.args.summaries.now in
    let level = c.args.table.now.level in
    let r = c.args.table.now.above in
    let words = c.as_slice-entries.result.now in
    let s = c.args.table.now.start in
    let i = c.loop-entry.entry-index in
    let e = c.entry-item.result in
    let less : i < length words = c.loop-entry-test.true in
    let entry : e ≡ get_or words i 0 = get_or_read words i e less c.entry-item.is 0 in
    let start : c.loop-entry.start ≡ s + i * span level = c.loop-entry.invariant.start in
    let aligned : c.loop-entry.start % span level ≡ 0 = ap (λ s. s % span level) start ∙ start_aligned s i (span level) c.requires.aligned in
    let here : asked_by asked level (s + i * span level) r (get_or words i 0) ≡ asked_by asked level c.loop-entry.start r e = (λ k. asked_by asked level (sym start k) r (sym entry k)) in
    let wanted : c.query-query.result.now.wanted ≡ asked.wanted = ap (λ a. a.wanted) c.query-query.ensures in
    let old = c.args.visitor.now in
    let passes = is_mapping_selected g.L.LevelCount.LEVELS c.args.selection.now in
    let front = filter passes (asked_on asked level s r (take i words)) in
    let next = next_start s i (span level) in
    let visited = selected_in g.L.LevelCount.LEVELS c.args.selection.now asked in
    record {
      start = omega (arith, start, c.span-size.ensures, next);
      visited = elim c.match-target.branch [
        | in-Page+then-takes+in_ok-visit-in-Page w ↦
            let m = w.of_page-page.result in
            let page = by_page asked level c.loop-entry.start r e m w.in-Page.ensures.value w.of_page-page.ensures aligned in
            let is : (is_wanted asked.wanted m && passes m) ≡ true = ap (λ wanted. is_wanted wanted m && passes m) (sym wanted) ∙ sym w.takes.ensures ∙ w.if-takes.true in
            subst (λ v. g.V.TableVisitor.Visits visited old v (filter passes (asked_on asked level s r (take (i + 1) words)))) (sym w.visitor-is)
            (kept_more asked level s r words i less (g.V.TableVisitor.Visits visited old w.visit.new.self) passes (m ∷ [])
            (ap (filter passes) (here ∙ page) ∙ kept_page passes (is_wanted asked.wanted m) m ∙ ap (λ b. cond b (m ∷ []) []) is)
            (g.met.V.TableVisitor.both visited old c.loop-entry.visitor w.visit.new.self front (m ∷ []) c.loop-entry.invariant.visited (w.in_ok-visit-in-Page.ensures visited)))
        | in-Page+else-takes w ↦
            let m = w.of_page-page.result in
            let page = by_page asked level c.loop-entry.start r e m w.in-Page.ensures.value w.of_page-page.ensures aligned in
            let is : (is_wanted asked.wanted m && passes m) ≡ false = ap (λ wanted. is_wanted wanted m && passes m) (sym wanted) ∙ sym w.takes.ensures ∙ w.if-takes.false in
            subst (λ v. g.V.TableVisitor.Visits visited old v (filter passes (asked_on asked level s r (take (i + 1) words)))) (sym w.visitor-is)
            (kept_same asked level s r words i less (g.V.TableVisitor.Visits visited old c.loop-entry.visitor) passes
            (ap (filter passes) (here ∙ page) ∙ kept_page passes (is_wanted asked.wanted m) m ∙ ap (λ b. cond b (m ∷ []) []) is)
            c.loop-entry.invariant.visited)
        | in-Table+then-not-maps_nothing+then-not-passes_over+in_ok-visit_table-in-Table+in_ok-remember-in-Table w ↦
            let between = c.loop-entry.visitor in
            let after = w.remember.new.self in
            let below = filter passes (map (placed c.loop-entry.start (granted r e)) (asked_mappings asked (level - 1) w.in-Table.frame)) in
            let visits : g.V.TableVisitor.Visits visited between after below =
            subst (λ table. g.V.TableVisitor.Visits visited between after (selected_in g.L.LevelCount.LEVELS c.args.selection.now asked table)) w.below-below.ensures
            (w.in_ok-remember-in-Table.ensures visited between w.in_ok-visit_table-in-Table.ensures) in
            subst (λ v. g.V.TableVisitor.Visits visited old v (filter passes (asked_on asked level s r (take (i + 1) words)))) (sym w.visitor-is)
            (kept_more asked level s r words i less (g.V.TableVisitor.Visits visited old after) passes below
            (ap (filter passes) (here ∙ by_table asked level c.loop-entry.start r e w.in-Table.frame w.in-Table.ensures.value))
            (g.met.V.TableVisitor.both visited old between after front below c.loop-entry.invariant.visited visits))
        | in-Table+else-not-maps_nothing w ↦
            let between = c.loop-entry.visitor in
            let below = selected_in g.L.LevelCount.LEVELS c.args.selection.now asked w.below-below.result in
            let visits : g.V.TableVisitor.Visits visited between between below = elim w.else-not-maps_nothing.branch [
              | else-not-maps_nothing-via-then-not-maps_nothing+else-not-passes_over w' ↦ w'.passes_over.ensures w'.if-not-passes_over.false visited
              | else-not-maps_nothing-via-else-not-maps_nothing w' ↦
                  subst (g.V.TableVisitor.Visits visited between between) (sym (w.maps_nothing.ensures w'.if-not-maps_nothing.false)) (g.met.V.TableVisitor.none visited between)
            ] in
            subst (λ v. g.V.TableVisitor.Visits visited old v (filter passes (asked_on asked level s r (take (i + 1) words)))) (sym w.visitor-is)
            (kept_more asked level s r words i less (g.V.TableVisitor.Visits visited old between) passes below
            (ap (filter passes) (here ∙ by_table asked level c.loop-entry.start r e w.in-Table.frame w.in-Table.ensures.value)
            ∙ ap (selected_in g.L.LevelCount.LEVELS c.args.selection.now asked) (sym w.below-below.ensures))
            (g.met.V.TableVisitor.both visited old between between front below c.loop-entry.invariant.visited visits))
        | in-Nothing w ↦
            subst (λ v. g.V.TableVisitor.Visits visited old v (filter passes (asked_on asked level s r (take (i + 1) words)))) (sym w.visitor-is)
            (kept_same asked level s r words i less (g.V.TableVisitor.Visits visited old c.loop-entry.visitor) passes
            (ap (filter passes) (here ∙ by_nothing asked level c.loop-entry.start r e w.in-Nothing.ensures.value))
            c.loop-entry.invariant.visited)
      ];
    }

pub returns : goal.returns
returns g t c =
    let asking_by = asked_of g.T.TableMemory.tables g.P.PageTableFrameMapping.places in
    let asked = asking_by c.args.summaries.now in
    let words = c.as_slice-entries.result.now in
    let r = c.args.table.now.above in
    let there : asked.words c.args.table.now.frame ≡ Some words =
    ap (λ a. (asking_by a).words c.args.table.now.frame) (sym c.query-query.ensures) ∙ sym c.in-Some.ensures ∙ ap Some (sym c.as_slice-entries.ensures.words) in
    let size : length words ≡ 512 = ap length c.as_slice-entries.ensures.words ∙ c.as_slice-entries.ensures.size in
    let passes = is_mapping_selected g.L.LevelCount.LEVELS c.args.selection.now in
    subst (λ ms. g.V.TableVisitor.Visits (selected_in g.L.LevelCount.LEVELS c.args.selection.now asked) c.args.visitor.now c.loop-entry.visitor (filter passes ms))
    (ap (asked_on asked c.args.table.now.level c.args.table.now.start r) (take_all c.loop-entry.entry-index words c.loop-entry-test.false)
    ∙ sym (asked_table asked c.args.table.now.level c.args.table.now.start r c.args.table.now.frame words c.requires.low there size))
    c.loop-entry.invariant.visited

pub visit_small_pages-requires-clause-size : goal.visit_small_pages-requires-clause-size
visit_small_pages-requires-clause-size g t c = ap length c.as_slice-entries.ensures.words ∙ c.as_slice-entries.ensures.size

pub visit_small_pages-requires-clause-aligned : goal.visit_small_pages-requires-clause-aligned
visit_small_pages-requires-clause-aligned g t c = subst (λ level. c.args.table.now.start % span level ≡ 0) c.if-table-eq1.true c.requires.aligned

pub visit_small_pages-requires-clause-inside : goal.visit_small_pages-requires-clause-inside
visit_small_pages-requires-clause-inside g t c =
    subst (λ level. c.args.table.now.start + 512 * span level ≤ position_count g.L.LevelCount.LEVELS) c.if-table-eq1.true c.requires.inside

pub loop-entry-init : goal.loop-entry-init
loop-entry-init g t c =
    let asked = asked_of g.T.TableMemory.tables g.P.PageTableFrameMapping.places c.args.summaries.now in
    let visited = selected_in g.L.LevelCount.LEVELS c.args.selection.now asked in
    record { start = omega arith; visited = g.met.V.TableVisitor.none visited c.args.visitor.now }

pub of_page-page-requires-clause-inside : goal.of_page-page-requires-clause-inside
of_page-page-requires-clause-inside g t c =
    let level = c.args.table.now.level in
    let some : 0 < span level = pow_pos (12 + 9 * (level - 1)) in
    let size : length c.as_slice-entries.result.now ≡ 512 = ap length c.as_slice-entries.ensures.words ∙ c.as_slice-entries.ensures.size in
    let most = position_count g.L.LevelCount.LEVELS in
    let less : c.loop-entry.entry-index < 512 = omega (arith, c.loop-entry-test.true, size) in
    let within = start_inside c.args.table.now.start c.loop-entry.entry-index (span level) most less c.requires.inside in
    omega (arith, c.loop-entry.invariant.start, within, some)

pub maps_nothing-requires-clause-low : goal.maps_nothing-requires-clause-low
maps_nothing-requires-clause-low g t c =
    subst (λ table. 1 ≤ table.level) (sym c.below-below.ensures) (let low = c.in-Table.ensures.table tt in omega (arith, low))

pub maps_nothing-requires-clause-high : goal.maps_nothing-requires-clause-high
maps_nothing-requires-clause-high g t c =
    subst (λ table. table.level < 5) (sym c.below-below.ensures) (omega (arith, c.requires.low, c.requires.high))

pub passes_over-requires-clause-low : goal.passes_over-requires-clause-low
passes_over-requires-clause-low g t c =
    subst (λ table. 1 ≤ table.level) (sym c.below-below.ensures) (let low = c.in-Table.ensures.table tt in omega (arith, low))

pub passes_over-requires-clause-high : goal.passes_over-requires-clause-high
passes_over-requires-clause-high g t c =
    subst (λ table. table.level < 5) (sym c.below-below.ensures) (omega (arith, c.requires.low, c.requires.high))

pub remember-requires-clause-low : goal.remember-requires-clause-low
remember-requires-clause-low g t c =
    subst (λ table. 1 ≤ table.level) (sym c.below-below.ensures) (let low = c.in-Table.ensures.table tt in omega (arith, low))

pub remember-requires-clause-high : goal.remember-requires-clause-high
remember-requires-clause-high g t c =
    subst (λ table. table.level < 5) (sym c.below-below.ensures) (omega (arith, c.requires.low, c.requires.high))

pub maps_nothing-requires-clause-inside : goal.maps_nothing-requires-clause-inside
maps_nothing-requires-clause-inside g t c =
    let level = c.args.table.now.level in
    let most = position_count g.L.LevelCount.LEVELS in
    let more : level - 1 + 1 ≡ level = omega (arith, c.requires.low) in
    let here : span level ≡ position_count (level - 1) = ap span (sym more) ∙ span_of_table (level - 1) in
    let size : length c.as_slice-entries.result.now ≡ 512 = ap length c.as_slice-entries.ensures.words ∙ c.as_slice-entries.ensures.size in
    let less : c.loop-entry.entry-index < 512 = omega (arith, c.loop-entry-test.true, size) in
    let within = start_inside c.args.table.now.start c.loop-entry.entry-index (span level) most less c.requires.inside in
    subst (λ table. table.start + position_count table.level ≤ most) (sym c.below-below.ensures)
    (omega (arith, c.loop-entry.invariant.start, within, here))

pub returns-in_err-visit-in-Page : goal.returns-in_err-visit-in-Page
returns-in_err-visit-in-Page g t c = IfOk-from_err c.from_residual.result _ c.from_residual.ensures.0

pub returns-in_err-visit_table-in-Table : goal.returns-in_err-visit_table-in-Table
returns-in_err-visit_table-in-Table g t c =
    IfOk-from_err c.from_residual-in_err-visit_table-in-Table.result _ c.from_residual-in_err-visit_table-in-Table.ensures.0

pub returns-in_err-remember-in-Table : goal.returns-in_err-remember-in-Table
returns-in_err-remember-in-Table g t c =
    IfOk-from_err c.from_residual-in_err-remember-in-Table.result _ c.from_residual-in_err-remember-in-Table.ensures.0
