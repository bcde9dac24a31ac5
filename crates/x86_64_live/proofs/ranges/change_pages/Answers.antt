use Rattle.std.proofs.Common.{◌≡◌, ◌∙◌, ◌≤◌, ◌+◌, true, length, set, Err, refl, sym, ap, subst, arith}
use Rattle.std.proofs.lemmas.Bool.{and_parts}
use Rattle.std.proofs.lemmas.List.{length-set}
use Rattle.x86_64_live.proofs.PagesBetween.{zero_not_wanted}
use Rattle.x86_64_live.proofs.PagesListed.{ends_listed, listed_none, listed_more, next_is, stops_more}
use Rattle.x86_64_live.proofs.PagesChanged.{wanted_used}
use Rattle.x86_64_live.proofs.RangeState.{changes_all, changes_up, goes_on, is_range, starts, table_there, valid_here, was_first, was_found, within_range}
use Rattle.x86_64_mappers.specs.Layouts.{direct_at}
use Rattle.x86_64_live.specs.PageRanges.{ExchangesPages, ListsPages, SeesPages, page_entries}
use Rattle.x86_64_live.specs.private.RangeSteps.{wanted_by}
use Rattle.x86_64_live.specs.declared.ranges.RangeEnd.TheVariants.{More}
use Rattle.x86_64_model.specs.Hierarchy.{◌laid_in◌, paths}
use Rattle.x86_64_model.specs.Live.{by_masks}
use Rattle.x86_64_live.proofs.ranges.change_pages.Goals as goal

pub loop-spot-init : goal.loop-spot-init
loop-spot-init g c =
    let L = g.L.LevelCount.LEVELS in let M = paths (direct_at L (g.P.PageTableFrameMapping.places c.args.mapping.now) c.args.root laid_in g.T.TableMemory.tables c.args.memory.now) in
    let r = is_range (g.met.P.PageTableFrameMapping.is_mapping c.args.mapping.now) g.L.LevelCount.at_least_four c.requires.valid c.place.ensures.value c.place.ensures.aligned c.end_of-end.ensures.value c.end_of-end.ensures.inside c.end_of-end.ensures.aligned in
    let first = c.args.range.start in let before = c.args.pages.now in let wanted = wanted_by c.args.wanted in let at = c.at_root-cursor.ensures in let start = at.position ∙ c.place.ensures.value in (
      subst (λ n. ListsPages L wanted M first n 0 before before) (sym start) (listed_none L wanted M first r.first_whole before),
      omega arith,
      starts r wanted (by_masks c.args.masks.keep c.args.masks.set) c.at_root-cursor.result start at.frame at.level,
      refl,
    )

pub next_page-requires-clause-valid : goal.next_page-requires-clause-valid
next_page-requires-clause-valid g c =
    let r = is_range (g.met.P.PageTableFrameMapping.is_mapping c.args.mapping.now) g.L.LevelCount.at_least_four c.requires.valid c.place.ensures.value c.place.ensures.aligned c.end_of-end.ensures.value c.end_of-end.ensures.inside c.end_of-end.ensures.aligned in
    valid_here r c.loop-spot.invariant.2

pub returns-in-Err-clause-sees : goal.returns-in-Err-clause-sees
returns-in-Err-clause-sees g c =
    let r = is_range (g.met.P.PageTableFrameMapping.is_mapping c.args.mapping.now) g.L.LevelCount.at_least_four c.requires.valid c.place.ensures.value c.place.ensures.aligned c.end_of-end.ensures.value c.end_of-end.ensures.inside c.end_of-end.ensures.aligned in
    let here = c.loop-spot.invariant.2 in
    ends_listed _ _ _ _ _ r.valid.valid r.three (zero_not_wanted c.args.wanted) g.row.L.Denot _ _ r.first_whole r.last_whole _ _ _ _ (within_range r here) c.loop-spot.invariant.0 c.in-Err.end (was_found r here (Err c.in-Err.end) c.in-Err.ensures)

pub returns-in-Err-clause-changes : goal.returns-in-Err-clause-changes
returns-in-Err-clause-changes g c =
    let r = is_range (g.met.P.PageTableFrameMapping.is_mapping c.args.mapping.now) g.L.LevelCount.at_least_four c.requires.valid c.place.ensures.value c.place.ensures.aligned c.end_of-end.ensures.value c.end_of-end.ensures.inside c.end_of-end.ensures.aligned in
    changes_all r c.loop-spot.invariant.2 (zero_not_wanted c.args.wanted) c.in-Err.end c.in-Err.ensures

pub returns-then-count-pages-clause-sees : goal.returns-then-count-pages-clause-sees
returns-then-count-pages-clause-sees g c =
    let L = g.L.LevelCount.LEVELS in let M = paths (direct_at L (g.P.PageTableFrameMapping.places c.args.mapping.now) c.args.root laid_in g.T.TableMemory.tables c.args.memory.now) in
    let r = is_range (g.met.P.PageTableFrameMapping.is_mapping c.args.mapping.now) g.L.LevelCount.at_least_four c.requires.valid c.place.ensures.value c.place.ensures.aligned c.end_of-end.ensures.value c.end_of-end.ensures.inside c.end_of-end.ensures.aligned in
    let here = c.loop-spot.invariant.2 in
    let stop = stops_more _ _ _ _ _ r.valid.valid r.three (zero_not_wanted c.args.wanted) _ _ r.first_whole r.last_whole _ _ _ _ (within_range r here) c.loop-spot.invariant.0 c.in-Ok.spot true (was_first r here c.in-Ok.spot c.in-Ok.ensures) refl
    (c.if-count-pages.true ∙ c.loop-spot.auto.pages) in
    subst (λ n. SeesPages {Levels = g.row.L.Denot} L (wanted_by c.args.wanted) M c.args.range.start c.args.range.end c.args.pages.now c.loop-spot.pages (record { count = c.loop-spot.count; end = More n })) (sym c.at.ensures)
    (record { listed = stop.0; end = stop.1 })

pub returns-then-count-pages-clause-changes : goal.returns-then-count-pages-clause-changes
returns-then-count-pages-clause-changes g c =
    let L = g.L.LevelCount.LEVELS in let l = direct_at L (g.P.PageTableFrameMapping.places c.args.mapping.now) c.args.root in let old = g.T.TableMemory.tables c.args.memory.now in
    let r = is_range (g.met.P.PageTableFrameMapping.is_mapping c.args.mapping.now) g.L.LevelCount.at_least_four c.requires.valid c.place.ensures.value c.place.ensures.aligned c.end_of-end.ensures.value c.end_of-end.ensures.inside c.end_of-end.ensures.aligned in
    subst (λ n. ExchangesPages l (by_masks c.args.masks.keep c.args.masks.set) (page_entries L (wanted_by c.args.wanted) (paths (l laid_in old)) c.args.range.start n) old (g.T.TableMemory.tables c.loop-spot.memory)) (sym c.at.ensures)
    (changes_up r c.loop-spot.invariant.2 (zero_not_wanted c.args.wanted) c.in-Ok.spot c.in-Ok.ensures)

pub set_word_at-requires-clause-there : goal.set_word_at-requires-clause-there
set_word_at-requires-clause-there g c =
    let r = is_range (g.met.P.PageTableFrameMapping.is_mapping c.args.mapping.now) g.L.LevelCount.at_least_four c.requires.valid c.place.ensures.value c.place.ensures.aligned c.end_of-end.ensures.value c.end_of-end.ensures.inside c.end_of-end.ensures.aligned in
    table_there r c.loop-spot.invariant.2 c.in-Ok.spot c.in-Ok.ensures.spot (wanted_used c.args.wanted c.in-Ok.spot.word (and_parts _ _ c.in-Ok.ensures.page).0)

pub loop-spot-preserved : goal.loop-spot-preserved
loop-spot-preserved g c =
    let L = g.L.LevelCount.LEVELS in let M = paths (direct_at L (g.P.PageTableFrameMapping.places c.args.mapping.now) c.args.root laid_in g.T.TableMemory.tables c.args.memory.now) in
    let r = is_range (g.met.P.PageTableFrameMapping.is_mapping c.args.mapping.now) g.L.LevelCount.at_least_four c.requires.valid c.place.ensures.value c.place.ensures.aligned c.end_of-end.ensures.value c.end_of-end.ensures.inside c.end_of-end.ensures.aligned in
    let inv = c.loop-spot.invariant in let zero = zero_not_wanted c.args.wanted in
    let s = c.in-Ok.spot in let found = was_first r inv.2 s c.in-Ok.ensures in let past = c.past-cursor.ensures in
    let few : c.loop-spot.count ≤ length c.loop-spot.pages = inv.1 in let not_full = c.if-count-pages.false in let size = c.loop-spot.auto.pages in
    let array = set c.loop-spot.pages c.loop-spot.count c.word_told.result in
    let kept : length array ≡ length c.loop-spot.pages = length-set c.loop-spot.pages c.loop-spot.count c.word_told.result in
    let at = past.position ∙ next_is _ _ _ _ _ r.valid.valid r.three zero _ _ r.first_whole r.last_whole _ _ _ _ (within_range r inv.2) inv.0 s true found refl in (
      subst (λ n. ListsPages L (wanted_by c.args.wanted) M c.args.range.start n (c.loop-spot.count + 1) c.args.pages.now array) (sym at)
          (listed_more _ _ _ _ _ r.valid.valid r.three zero _ _ r.first_whole r.last_whole _ _ _ _ (within_range r inv.2) inv.0 s true found refl
          (omega (arith, few, not_full, size)) array (ap (set c.loop-spot.pages c.loop-spot.count) c.word_told.ensures)),
      omega (arith, few, not_full, kept),
      goes_on r inv.2 zero c.requires.masks s c.in-Ok.ensures (wanted_used c.args.wanted s.word (and_parts _ _ c.in-Ok.ensures.page).0) _ c.set_word_at.ensures.word c.past-cursor.result past.position past.table,
      c.set_word_at.ensures.lent ∙ inv.3,
    )
