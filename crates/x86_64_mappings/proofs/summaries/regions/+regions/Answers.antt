use Rattle.std.proofs.Common.{◌≡◌, ◌≤◌, ◌<◌, ◌+◌, ◌-◌, ◌*◌, ◌%◌, ◌^◌, ℕ, not, false, [], ◌∷◌, Option, None, Some, is_some, refl, sym, ap, ap₂, ◌∙◌, subst, subst₂, arith, get_or, length, take, filter, map}
use Rattle.std.specs.Prelude.{OnOk}
use Rattle.std.proofs.Math.Pow.{pow_mono}
use Rattle.std.proofs.lemmas.Bool.{true≢false}
use Rattle.std.proofs.lemmas.List.{get_or_read, take_all}
use Rattle.std.proofs.lemmas.Nat.{pow_pos}
use Rattle.std.proofs.lemmas.Result.{on_ok_weaker}
use Rattle.x86_64_model.specs.Position.{span, position_count}
use Rattle.x86_64_model.specs.Mappings.{granted}
use Rattle.x86_64_mappings.specs.Wanted.{asked_of, asked_mappings, is_wanted}
use Rattle.x86_64_mappings.specs.private.Joined.{Joins, region_between}
use Rattle.x86_64_mappings.specs.private.Placed.{placed}
use Rattle.x86_64_mappings.specs.private.Targets.{asked_by, asked_in, asked_on}
use Rattle.x86_64_mappings.proofs.Joined.{joins_none, joins_region, joins_both, joins_whole}
use Rattle.x86_64_mappings.proofs.Spans.{span_in_half, span_of_table, count_span, table_aligned}
use Rattle.x86_64_mappings.proofs.Tables.{asked_none, asked_table, by_nothing, by_page, by_table, none_copied}
use Rattle.x86_64_mappings.proofs.Visited.{next_start, start_inside, start_aligned, visited_more, visited_same}
use Rattle.x86_64_mappings.proofs.summaries.regions.+regions.Goals as goal
use Rattle.x86_64_mappings.proofs.summaries.regions.+regions.Goals.{join_table-in-Page+in_ok-join_page-in-Page, join_table-in-Table+in_ok-join_below-in-Table, join_table-in-Nothing}

-- ---- a table below the root

pub join_below-join_table-requires : goal.join_below-join_table-requires
join_below-join_table-requires g t c κs within =
    let level = c.args.table.now.level in
    let high = c.requires.high in (
      let d : 2 * level + 1 ≡ t = c.decreases in let m : 2 * level < t = omega (arith, d) in m,
      (
        within.0,
        (within.1.0, (within.1.1.0, (within.1.1.1.0, (within.1.1.1.1, (c.requires.low, (omega (arith, high), (c.requires.aligned, c.requires.inside))))))),
      ),
    )

pub join_below-returns-in-Nothing : goal.join_below-returns-in-Nothing
join_below-returns-in-Nothing g t c =
    let asked = asked_of g.T.TableMemory.tables g.P.PageTableFrameMapping.places c.args.summaries.now in
    subst (λ ms. Joins g.V.Visitor.Visits g.L.LevelCount.LEVELS ms c.args.joiner.now c.args.visitor.now c.args.joiner.now c.args.visitor.now) (sym (c.in-Nothing.ensures.extent asked c.args.table.now.frame c.args.table.now.start c.of.ensures))
    (joins_none g.V.Visitor.Visits g.L.LevelCount.LEVELS g.met.V.Visitor.none _ _)

pub join_below-returns-in-Whole : goal.join_below-returns-in-Whole
join_below-returns-in-Whole g t c =
    let L = g.L.LevelCount.LEVELS in
    let some : 0 < position_count c.args.table.now.level = pow_pos (12 + 9 * c.args.table.now.level) in
    let asked = asked_of g.T.TableMemory.tables g.P.PageTableFrameMapping.places c.args.summaries.now in
    let mappings = map (placed c.args.table.now.start c.args.table.now.above) (asked_mappings asked c.args.table.now.level c.args.table.now.frame) in
    on_ok_weaker c.visit_joined.result
    (λ visited. joins_whole g.V.Visitor.Visits L c.args.table.now.start (c.args.table.now.start + position_count c.args.table.now.level) c.in-Whole.rights mappings (omega (arith, some)) (c.in-Whole.ensures.extent asked c.args.table.now.frame c.args.table.now.start c.of.ensures)
    (span_in_half L c.args.table.now.level c.args.table.now.start c.requires.high c.requires.aligned) c.region_from-region.result (c.region_from-region.ensures ∙ ap (λ size. region_between c.args.table.now.start (c.args.table.now.start + size) c.in-Whole.rights) (c.span.ensures ∙ span_of_table c.args.table.now.level)) _ _ _ _
    (joins_region g.V.Visitor.Visits L c.region_from-region.result _ c.join.result _ _ _ c.join.ensures.given c.join.ensures.held visited))
    c.visit_joined.ensures

-- ---- a table

pub join_table-returns-in_default : goal.join_table-returns-in_default
join_table-returns-in_default g t c =
    let asking_by = asked_of g.T.TableMemory.tables g.P.PageTableFrameMapping.places in
    let asked = asking_by c.args.summaries.now in
    let none : asked.words c.args.table.now.frame ≡ None =
    ap (λ a. (asking_by a).words c.args.table.now.frame) (sym c.query-query.ensures) ∙ sym c.table.ensures ∙ none_copied c.table.result c.in_default.not-Some in
    subst (λ ms. Joins g.V.Visitor.Visits g.L.LevelCount.LEVELS ms c.args.joiner.now c.args.visitor.now c.args.joiner.now c.args.visitor.now)
    (sym (ap (map (placed c.args.table.now.start c.args.table.now.above)) (asked_none asked c.args.table.now.level c.args.table.now.frame none)))
    (joins_none g.V.Visitor.Visits g.L.LevelCount.LEVELS g.met.V.Visitor.none c.args.joiner.now c.args.visitor.now)

-- an option that isn't some is none
is_nothing : (o : Option ℕ) → is_some o ≡ false → o ≡ None
is_nothing None not_some = refl
is_nothing (Some x) not_some = absurd (true≢false not_some)

pub join_table-returns-then-is_none : goal.join_table-returns-then-is_none
join_table-returns-then-is_none g t c =
    let asking_by = asked_of g.T.TableMemory.tables g.P.PageTableFrameMapping.places in
    let asked = asking_by c.args.summaries.now in
    let words = c.as_slice-entries.result.now in
    let s = c.args.table.now.start in
    let r = c.args.table.now.above in
    let there : asked.words c.args.table.now.frame ≡ Some words =
    ap (λ a. (asking_by a).words c.args.table.now.frame) (sym c.query-query.ensures) ∙ sym c.in-Some.ensures ∙ ap Some (sym c.as_slice-entries.ensures.words) in
    let size : length words ≡ 512 = ap length c.as_slice-entries.ensures.words ∙ c.as_slice-entries.ensures.size in
    let every : asked.wanted ≡ None = ap (λ a. a.wanted) (sym c.query-query.ensures) ∙ is_nothing c.query-query.result.now.wanted (c.is_none.ensures ∙ ap not c.if-is_none.true) in
    subst (λ ms. OnOk c.join_small_pages.result (Joins g.V.Visitor.Visits g.L.LevelCount.LEVELS ms c.args.joiner.now c.args.visitor.now c.join_small_pages.new.joiner c.join_small_pages.new.visitor))
    (ap (λ level. asked_on asked level s r words) (sym c.if-table-eq1.true)
    ∙ sym (asked_table asked c.args.table.now.level s r c.args.table.now.frame words c.requires.low there size))
    (c.join_small_pages.ensures asked every)

pub join_table-loop-entry-init : goal.join_table-loop-entry-init
join_table-loop-entry-init g t c = record {
  start = omega arith;
  joined = joins_none g.V.Visitor.Visits g.L.LevelCount.LEVELS g.met.V.Visitor.none _ _;
}

pub join_table-join_below-requires : goal.join_table-join_below-requires
join_table-join_below-requires g t c κs within =
    let level = c.args.table.now.level in
    let s = c.args.table.now.start in
    let w = span level in
    let i = c.loop-entry.entry-index in
    let low : 1 < level = c.in-Table.ensures.table tt in
    let high = c.requires.high in
    let start : c.loop-entry.start ≡ s + i * w = c.loop-entry.invariant.start in
    let aligned : c.loop-entry.start % w ≡ 0 = ap (λ s. s % w) start ∙ start_aligned s i w (table_aligned level s c.requires.low c.requires.aligned) in
    let size : length c.as_slice-entries.result.now ≡ 512 = ap length c.as_slice-entries.ensures.words ∙ c.as_slice-entries.ensures.size in
    let count = count_span level c.requires.low in
    let inside = start_inside s i w (position_count g.L.LevelCount.LEVELS) (omega (arith, c.loop-entry-test.true, size)) (omega (arith, count, c.requires.inside)) in
    let below = c.below-below.result in
    let level_is : below.level ≡ level - 1 = ap (λ table. table.level) c.below-below.ensures in
    let start_is : below.start ≡ c.loop-entry.start = ap (λ table. table.start) c.below-below.ensures in
    let count : position_count below.level ≡ w = ap position_count level_is in
    let d : 2 * level ≡ t = c.decreases in
    let falls : 2 * below.level + 1 < t = omega (arith, d, low, level_is) in
    let below_low : 1 ≤ below.level = omega (arith, low, level_is) in
    let below_high : below.level < g.L.LevelCount.LEVELS = omega (arith, low, high, level_is) in
    let below_aligned : below.start % position_count below.level ≡ 0 = ap₂ (λ s p. s % p) start_is count ∙ aligned in
    let below_inside : below.start + position_count below.level ≤ position_count g.L.LevelCount.LEVELS = omega (arith, start, inside, count, start_is) in (
      falls,
      (
        within.0,
        (within.1.0, (within.1.1.0, (within.1.1.1.0, (within.1.1.1.1, (below_low, (below_high, (below_aligned, below_inside))))))),
      ),
    )

pub join_table-overflow_add-start : goal.join_table-overflow_add-start
join_table-overflow_add-start g t c =
    let w = span c.args.table.now.level in
    let few : position_count g.L.LevelCount.LEVELS ≤ 2 ^ 57 = pow_mono (let most : 12 + 9 * g.L.LevelCount.LEVELS ≤ 57 = (let five = g.L.LevelCount.at_most_five in omega (arith, five)) in most) in
    let size : length c.as_slice-entries.result.now ≡ 512 = ap length c.as_slice-entries.ensures.words ∙ c.as_slice-entries.ensures.size in
    let count = count_span c.args.table.now.level c.requires.low in
    let inside = start_inside c.args.table.now.start c.loop-entry.entry-index w (position_count g.L.LevelCount.LEVELS) (omega (arith, c.loop-entry-test.true, size)) (omega (arith, count, c.requires.inside)) in
    omega (arith, c.loop-entry.invariant.start, c.span-size.ensures, inside, few)

pub join_table-loop-entry-preserved : goal.join_table-loop-entry-preserved
join_table-loop-entry-preserved g t c =
    let L = g.L.LevelCount.LEVELS in
    let visits = g.V.Visitor.Visits in
    let asked = asked_of g.T.TableMemory.tables g.P.PageTableFrameMapping.places c.args.summaries.now in
    let level = c.args.table.now.level in
    let r = c.args.table.now.above in
    let words = c.as_slice-entries.result.now in
    let s = c.args.table.now.start in
    let i = c.loop-entry.entry-index in
    let e = c.entry-item.result in
    let less : i < length words = c.loop-entry-test.true in
    let entry : e ≡ get_or words i 0 = get_or_read words i e less c.entry-item.is 0 in
    let start : c.loop-entry.start ≡ s + i * span level = c.loop-entry.invariant.start in
    let aligned : c.loop-entry.start % span level ≡ 0 = ap (λ s. s % span level) start ∙ start_aligned s i (span level) (table_aligned level s c.requires.low c.requires.aligned) in
    let here : asked_by asked level (s + i * span level) r (get_or words i 0) ≡ asked_by asked level c.loop-entry.start r e = (λ k. asked_by asked level (sym start k) r (sym entry k)) in
    let wanted : c.query-query.result.now.wanted ≡ asked.wanted = ap (λ a. a.wanted) c.query-query.ensures in
    let held = c.args.joiner.now in
    let old = c.args.visitor.now in
    let front = asked_on asked level s r (take i words) in
    let next = next_start s i (span level) in
    record {
      start = omega (arith, start, c.span-size.ensures, next);
      joined = elim c.match-target.branch [
        | join_table-in-Page+in_ok-join_page-in-Page w ↦
            let m = w.of_page-page.result in
            let back = filter (is_wanted asked.wanted) (m ∷ []) in
            let after = w.join_page.new.joiner in
            let visited = w.join_page.new.visitor in
            let joins : Joins visits L back c.loop-entry.joiner c.loop-entry.visitor after visited =
            subst (λ wanted. Joins visits L (filter (is_wanted wanted) (m ∷ [])) c.loop-entry.joiner c.loop-entry.visitor after visited) wanted w.in_ok-join_page-in-Page.ensures in
            subst₂ (λ h v. Joins visits L (asked_on asked level s r (take (i + 1) words)) held old h v) (sym w.joiner-is) (sym w.visitor-is)
            (visited_more asked level s r words i less (λ ms. Joins visits L ms held old after visited) back
            (here ∙ by_page asked level c.loop-entry.start r e m w.in-Page.ensures.value w.of_page-page.ensures aligned)
            (joins_both visits L g.met.V.Visitor.both front back held c.loop-entry.joiner after old c.loop-entry.visitor visited c.loop-entry.invariant.joined joins))
        | join_table-in-Table+in_ok-join_below-in-Table w ↦
            let back = map (placed c.loop-entry.start (granted r e)) (asked_mappings asked (level - 1) w.in-Table.frame) in
            let after = w.join_below.new.joiner in
            let visited = w.join_below.new.visitor in
            let joins : Joins visits L back c.loop-entry.joiner c.loop-entry.visitor after visited =
            subst (λ table. Joins visits L (asked_in asked table) c.loop-entry.joiner c.loop-entry.visitor after visited) w.below-below.ensures w.in_ok-join_below-in-Table.ensures in
            subst₂ (λ h v. Joins visits L (asked_on asked level s r (take (i + 1) words)) held old h v) (sym w.joiner-is) (sym w.visitor-is)
            (visited_more asked level s r words i less (λ ms. Joins visits L ms held old after visited) back
            (here ∙ by_table asked level c.loop-entry.start r e w.in-Table.frame w.in-Table.ensures.value)
            (joins_both visits L g.met.V.Visitor.both front back held c.loop-entry.joiner after old c.loop-entry.visitor visited c.loop-entry.invariant.joined joins))
        | join_table-in-Nothing w ↦
            subst₂ (λ h v. Joins visits L (asked_on asked level s r (take (i + 1) words)) held old h v) (sym w.joiner-is) (sym w.visitor-is)
            (visited_same asked level s r words i less (λ ms. Joins visits L ms held old c.loop-entry.joiner c.loop-entry.visitor)
            (here ∙ by_nothing asked level c.loop-entry.start r e w.in-Nothing.ensures.value)
            c.loop-entry.invariant.joined)
      ];
    }

pub join_table-returns : goal.join_table-returns
join_table-returns g t c =
    let asking_by = asked_of g.T.TableMemory.tables g.P.PageTableFrameMapping.places in
    let asked = asking_by c.args.summaries.now in
    let words = c.as_slice-entries.result.now in
    let r = c.args.table.now.above in
    let there : asked.words c.args.table.now.frame ≡ Some words =
    ap (λ a. (asking_by a).words c.args.table.now.frame) (sym c.query-query.ensures) ∙ sym c.in-Some.ensures ∙ ap Some (sym c.as_slice-entries.ensures.words) in
    let size : length words ≡ 512 = ap length c.as_slice-entries.ensures.words ∙ c.as_slice-entries.ensures.size in
    subst (λ ms. Joins g.V.Visitor.Visits g.L.LevelCount.LEVELS ms c.args.joiner.now c.args.visitor.now c.loop-entry.joiner c.loop-entry.visitor)
    (ap (asked_on asked c.args.table.now.level c.args.table.now.start r) (take_all c.loop-entry.entry-index words c.loop-entry-test.false)
    ∙ sym (asked_table asked c.args.table.now.level c.args.table.now.start r c.args.table.now.frame words c.requires.low there size))
    c.loop-entry.invariant.joined

-- ---- what the calls ask

pub join_below-extent_of-requires-clause-high : goal.join_below-extent_of-requires-clause-high
join_below-extent_of-requires-clause-high g t c = let five = g.L.LevelCount.at_most_five in omega (arith, c.requires.high, five)

pub join_below-overflow_add-table : goal.join_below-overflow_add-table
join_below-overflow_add-table g t c = let five = g.L.LevelCount.at_most_five in omega (arith, c.requires.high, five)

pub join_below-region_from-region-requires-clause-some : goal.join_below-region_from-region-requires-clause-some
join_below-region_from-region-requires-clause-some g t c =
    let some : 0 < position_count c.args.table.now.level = pow_pos (12 + 9 * c.args.table.now.level) in
    omega (arith, c.span.ensures, span_of_table c.args.table.now.level, some)

pub join_below-region_from-region-requires-clause-inside : goal.join_below-region_from-region-requires-clause-inside
join_below-region_from-region-requires-clause-inside g t c = omega (arith, c.span.ensures, span_of_table c.args.table.now.level, c.requires.inside)

pub join_table-join_small_pages-requires-clause-size : goal.join_table-join_small_pages-requires-clause-size
join_table-join_small_pages-requires-clause-size g t c = ap length c.as_slice-entries.ensures.words ∙ c.as_slice-entries.ensures.size

pub join_table-join_small_pages-requires-clause-aligned : goal.join_table-join_small_pages-requires-clause-aligned
join_table-join_small_pages-requires-clause-aligned g t c =
    subst (λ level. c.args.table.now.start % position_count level ≡ 0) c.if-table-eq1.true c.requires.aligned

pub join_table-join_small_pages-requires-clause-inside : goal.join_table-join_small_pages-requires-clause-inside
join_table-join_small_pages-requires-clause-inside g t c =
    subst (λ level. c.args.table.now.start + position_count level ≤ position_count g.L.LevelCount.LEVELS) c.if-table-eq1.true c.requires.inside

pub join_table-of_page-page-requires-clause-inside : goal.join_table-of_page-page-requires-clause-inside
join_table-of_page-page-requires-clause-inside g t c =
    let level = c.args.table.now.level in
    let some : 0 < span level = pow_pos (12 + 9 * (level - 1)) in
    let size : length c.as_slice-entries.result.now ≡ 512 = ap length c.as_slice-entries.ensures.words ∙ c.as_slice-entries.ensures.size in
    let less : c.loop-entry.entry-index < 512 = omega (arith, c.loop-entry-test.true, size) in
    let within = start_inside c.args.table.now.start c.loop-entry.entry-index (span level) (position_count g.L.LevelCount.LEVELS) less
    (omega (arith, count_span level c.requires.low, c.requires.inside)) in
    omega (arith, c.loop-entry.invariant.start, within, some)

pub join_table-join_page-requires : goal.join_table-join_page-requires
join_table-join_page-requires g t c =
    let most = position_count g.L.LevelCount.LEVELS in
    let size : length c.as_slice-entries.result.now ≡ 512 = ap length c.as_slice-entries.ensures.words ∙ c.as_slice-entries.ensures.size in
    let less : c.loop-entry.entry-index < 512 = omega (arith, c.loop-entry-test.true, size) in
    let within = start_inside c.args.table.now.start c.loop-entry.entry-index (span c.args.table.now.level) most less
    (omega (arith, count_span c.args.table.now.level c.requires.low, c.requires.inside)) in
    subst (λ page. page.start + page.size ≤ most) (sym c.of_page-page.ensures) (omega (arith, c.loop-entry.invariant.start, within))
