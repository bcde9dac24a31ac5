use Rattle.std.proofs.Common.{◌≡◌, ◌<◌, ◌≤◌, ◌+◌, ◌-◌, ◌*◌, ◌%◌, ◌^◌, [], ◌∷◌, length, get_or, map, take, List, Some, None, sym, ap, ◌∙◌, subst, arith, rules}
use Rattle.std.proofs.Math.Pow.{pow_mono}
use Rattle.std.proofs.lemmas.List.{get_or_read, take_all}
use Rattle.std.specs.Option.{option_copied}
use Rattle.x86_64_model.specs.Mappings.{Mapping, granted}
use Rattle.x86_64_model.specs.Position.{span, position_count}
use Rattle.x86_64_mappings.specs.Wanted.{asked_mappings}
use Rattle.x86_64_mappings.specs.private.Placed.{placed}
use Rattle.x86_64_mappings.specs.private.Targets.{asked_by, asked_on}
use Rattle.x86_64_mappings.proofs.Tables.{asked_none, asked_table, by_nothing, by_page, by_table}
use Rattle.x86_64_mappings.proofs.Visited.{next_start, start_inside, start_aligned, span_below, aligned_below, visited_more}
use Rattle.ptdump_check.specs.declared.reached.search.Found.{Found}
use Rattle.ptdump_check.specs.private.Reaching.{searched, sought, sought_in, TakesFound}
use Rattle.ptdump_check.proofs.Reaches.{takes_more, takes_nothing}
use Rattle.ptdump_check.proofs.reached.search.+visit_table.Goals as goal
use Rattle.ptdump_check.proofs.reached.search.+visit_table.Goals.{in-Page+in_ok-note_page-in-Page, in-Table+then-is_new+in_ok-visit_table-in-Table+in_ok-mark-in-Table, in-Table+else-is_new, in-Nothing}

pub returns-in_default : goal.returns-in_default
returns-in_default g t c =
    let search = c.args.search.now in
    let table = c.args.table.now in
    let none : (searched search).words table.frame ≡ None = sym c.table_in.ensures ∙ ap option_copied c.in_default.is in
    subst (TakesFound g.L.LevelCount.LEVELS search c.args.found.now c.args.found.now)
    (sym (ap (λ ms. sought search (map (placed table.start table.above) ms)) (asked_none (searched search) table.level table.frame none)))
    (takes_nothing g.L.LevelCount.LEVELS search c.args.found.now)

pub visit_table-requires : goal.visit_table-requires
visit_table-requires g t c κs shorter =
    let level = c.args.table.now.level in
    let w = span level in
    let s = c.args.table.now.start in
    let i = c.loop-entry.entry-index in
    let low : 1 < level = c.in-Table.ensures.table tt in
    let start : c.loop-entry.start ≡ s + i * w = c.loop-entry.invariant.start in
    let size : length c.as_slice-entries.result.now ≡ 512 = ap length c.as_slice-entries.ensures.words ∙ c.as_slice-entries.ensures.size in
    let within = start_inside s i w (position_count g.L.LevelCount.LEVELS) (omega (arith, c.loop-entry-test.true, size)) c.requires.inside in
    let below = span_below level low in
    let aligned : c.loop-entry.start % span (level - 1) ≡ 0 = aligned_below level c.loop-entry.start low (ap (λ s. s % w) start ∙ start_aligned s i w c.requires.aligned) in
    let inside : c.loop-entry.start + 512 * span (level - 1) ≤ position_count g.L.LevelCount.LEVELS = omega (arith, start, within, below) in
    search rules

pub is_new-requires : goal.is_new-requires
is_new-requires g t c =
    let level = c.args.table.now.level in
    let w = span level in
    let s = c.args.table.now.start in
    let i = c.loop-entry.entry-index in
    let low : 1 < level = c.in-Table.ensures.table tt in
    let start : c.loop-entry.start ≡ s + i * w = c.loop-entry.invariant.start in
    let size : length c.as_slice-entries.result.now ≡ 512 = ap length c.as_slice-entries.ensures.words ∙ c.as_slice-entries.ensures.size in
    let within = start_inside s i w (position_count g.L.LevelCount.LEVELS) (omega (arith, c.loop-entry-test.true, size)) c.requires.inside in
    let below = span_below level low in
    let inside : c.loop-entry.start + 512 * span (level - 1) ≤ position_count g.L.LevelCount.LEVELS = omega (arith, start, within, below) in
    search rules

pub mark-requires : goal.mark-requires
mark-requires g t c =
    let level = c.args.table.now.level in
    let w = span level in
    let s = c.args.table.now.start in
    let i = c.loop-entry.entry-index in
    let low : 1 < level = c.in-Table.ensures.table tt in
    let start : c.loop-entry.start ≡ s + i * w = c.loop-entry.invariant.start in
    let size : length c.as_slice-entries.result.now ≡ 512 = ap length c.as_slice-entries.ensures.words ∙ c.as_slice-entries.ensures.size in
    let within = start_inside s i w (position_count g.L.LevelCount.LEVELS) (omega (arith, c.loop-entry-test.true, size)) c.requires.inside in
    let below = span_below level low in
    let inside : c.loop-entry.start + 512 * span (level - 1) ≤ position_count g.L.LevelCount.LEVELS = omega (arith, start, within, below) in
    search rules

pub overflow_add-start : goal.overflow_add-start
overflow_add-start g t c =
    let w = span c.args.table.now.level in
    let most : 12 + 9 * g.L.LevelCount.LEVELS ≤ 57 = (let five = g.L.LevelCount.at_most_five in omega (arith, five)) in
    let few : position_count g.L.LevelCount.LEVELS ≤ 2 ^ 57 = pow_mono {j = 57} most in
    let size : length c.as_slice-entries.result.now ≡ 512 = ap length c.as_slice-entries.ensures.words ∙ c.as_slice-entries.ensures.size in
    let within = start_inside c.args.table.now.start c.loop-entry.entry-index w (position_count g.L.LevelCount.LEVELS) (omega (arith, c.loop-entry-test.true, size)) c.requires.inside in
    omega (arith, c.loop-entry.invariant.start, c.span-size.ensures, within, few)

pub loop-entry-preserved : goal.loop-entry-preserved
loop-entry-preserved g t c =
    let L = g.L.LevelCount.LEVELS in
    let search = c.args.search.now in
    let asked = searched search in
    let level = c.args.table.now.level in
    let r = c.args.table.now.above in
    let words = c.as_slice-entries.result.now in
    let s = c.args.table.now.start in
    let i = c.loop-entry.entry-index in
    let e = c.entry-item.result in
    let less : i < length words = c.loop-entry-test.true in
    let entry : e ≡ get_or words i 0 = get_or_read words i e less c.entry-item.is 0 in
    let start : c.loop-entry.start ≡ s + i * span level = c.loop-entry.invariant.start in
    let aligned : c.loop-entry.start % span level ≡ 0 = ap (λ s. s % span level) start ∙ start_aligned s i (span level) c.requires.aligned in
    let here : asked_by asked level (s + i * span level) r (get_or words i 0) ≡ asked_by asked level c.loop-entry.start r e = (λ k. asked_by asked level (sym start k) r (sym entry k)) in
    let old = c.args.found.now in
    let between = c.loop-entry.found in
    let front = asked_on asked level s r (take i words) in
    let so_far : TakesFound L search old between (sought search front) = c.loop-entry.invariant.taken in
    let next = next_start s i (span level) in
    let all : Found → List Mapping → Type 0 = λ new ms. TakesFound L search old new (sought search ms) in
    let with : (new : Found) → (back : List Mapping) → asked_by asked level c.loop-entry.start r e ≡ back → TakesFound L search between new (sought search back)
    → all new (asked_on asked level s r (take (i + 1) words)) =
    λ new back is more. visited_more asked level s r words i less (all new) back (here ∙ is) (takes_more L search old between new front back so_far more) in
    record {
      start = omega (arith, start, c.span-size.ensures, next);
      taken = elim c.match-target.branch [
        | in-Page+in_ok-note_page-in-Page w ↦
            let m = w.of_page-page.result in
            subst (λ v. all v (asked_on asked level s r (take (i + 1) words))) (sym w.found-is)
            (with w.note_page.new.found (m ∷ []) (by_page asked level c.loop-entry.start r e m w.in-Page.ensures.value w.of_page-page.ensures aligned) w.in_ok-note_page-in-Page.ensures)
        | in-Table+then-is_new+in_ok-visit_table-in-Table+in_ok-mark-in-Table w ↦
            let visit = w.below-below.result in
            let below = map (placed c.loop-entry.start (granted r e)) (asked_mappings asked (level - 1) w.in-Table.frame) in
            let same : sought_in search visit ≡ sought search below = ap (sought_in search) w.below-below.ensures ∙ ap (λ a. sought search (map (placed c.loop-entry.start a) (asked_mappings asked (level - 1) w.in-Table.frame))) w.below.ensures in
            let more : TakesFound L search between w.mark.new.found (sought_in search visit) = λ ms after. w.in_ok-mark-in-Table.ensures ms (w.in_ok-visit_table-in-Table.ensures ms after) in
            subst (λ v. all v (asked_on asked level s r (take (i + 1) words))) (sym w.found-is)
            (with w.mark.new.found below (by_table asked level c.loop-entry.start r e w.in-Table.frame w.in-Table.ensures.value) (subst (TakesFound L search between w.mark.new.found) same more))
        | in-Table+else-is_new w ↦
            let visit = w.below-below.result in
            let below = map (placed c.loop-entry.start (granted r e)) (asked_mappings asked (level - 1) w.in-Table.frame) in
            let same : sought_in search visit ≡ sought search below = ap (sought_in search) w.below-below.ensures ∙ ap (λ a. sought search (map (placed c.loop-entry.start a) (asked_mappings asked (level - 1) w.in-Table.frame))) w.below.ensures in
            subst (λ v. all v (asked_on asked level s r (take (i + 1) words))) (sym w.found-is)
            (with between below (by_table asked level c.loop-entry.start r e w.in-Table.frame w.in-Table.ensures.value)
            (subst (TakesFound L search between between) same (w.is_new.ensures.old w.if-is_new.false)))
        | in-Nothing w ↦
            subst (λ v. all v (asked_on asked level s r (take (i + 1) words))) (sym w.found-is)
            (with between [] (by_nothing asked level c.loop-entry.start r e w.in-Nothing.ensures.value) (takes_nothing L search between))
      ];
    }

pub returns : goal.returns
returns g t c =
    let search = c.args.search.now in
    let table = c.args.table.now in
    let words = c.as_slice-entries.result.now in
    let there : (searched search).words table.frame ≡ Some words =
    sym c.table_in.ensures ∙ ap option_copied c.in-Some.is ∙ ap Some (sym c.as_slice-entries.ensures.words) in
    let size : length words ≡ 512 = ap length c.as_slice-entries.ensures.words ∙ c.as_slice-entries.ensures.size in
    subst (λ ms. TakesFound g.L.LevelCount.LEVELS search c.args.found.now c.loop-entry.found (sought search ms))
    (ap (asked_on (searched search) table.level table.start table.above) (take_all c.loop-entry.entry-index words c.loop-entry-test.false)
    ∙ sym (asked_table (searched search) table.level table.start table.above table.frame words c.requires.low there size))
    c.loop-entry.invariant.taken
