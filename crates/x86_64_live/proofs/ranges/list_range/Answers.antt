use Rattle.std.proofs.Common.{◌≡◌, ◌∙◌, ◌≤◌, ◌+◌, ◌%◌, true, length, set, Err, inr, refl, sym, ap, subst, subst₂, arith}
use Rattle.std.proofs.lemmas.List.{length-set}
use Rattle.x86_64_live.proofs.PagesListed.{listed_none, listed_more, next_is, next_within, page_ends, stops_more, ends_listed}
use Rattle.x86_64_live.proofs.PageSpots.{goes_past, on_root}
use Rattle.x86_64_live.proofs.RangeState.{is_range}
use Rattle.x86_64_mappers.specs.Layouts.{direct_at}
use Rattle.x86_64_live.specs.PageRanges.{ListsPages, SeesPages}
use Rattle.x86_64_live.specs.private.RangeSteps.{IsFirstPage, SearchFinds, IsOnWay, IsWithin}
use Rattle.x86_64_live.specs.declared.ranges.RangeEnd.TheVariants.{More}
use Rattle.x86_64_model.specs.Entry.{used}
use Rattle.x86_64_model.specs.Hierarchy.{◌laid_in◌, paths}
use Rattle.x86_64_model.proofs.Lemmas.Hierarchies.Changes.{zero_not_used}
use Rattle.x86_64_live.proofs.ranges.list_range.Goals as goal

pub loop-spot-init : goal.loop-spot-init
loop-spot-init g c =
    let L = g.L.LevelCount.LEVELS in let root = c.args.root in let M = paths (direct_at L (g.P.PageTableFrameMapping.places c.args.mapping.now) root laid_in g.T.TableMemory.tables c.args.memory.now) in
    let r = is_range (g.met.P.PageTableFrameMapping.is_mapping c.args.mapping.now) g.L.LevelCount.at_least_four c.requires c.place.ensures.value c.place.ensures.aligned c.end_of-end.ensures.value c.end_of-end.ensures.inside c.end_of-end.ensures.aligned in
    let first = c.args.range.start in let before = c.args.pages.now in let three = r.three in
    let at = c.at_root-cursor.result in let e = c.at_root-cursor.ensures in
    let start : at.position ≡ first = e.position ∙ c.place.ensures.value in (
      subst (λ n. ListsPages L used M first n 0 before before) (sym start) (listed_none L used M first r.first_whole before),
      omega arith,
      record { from = omega (arith, start); to = inr start; aligned = ap (λ n. n % 4096) start ∙ r.first_whole },
      λ less. subst₂ (IsOnWay L root M at.position) (sym e.level) (sym e.frame) (on_root L _ root M r.valid.valid at.position (omega (arith, three))),
    )

pub returns-in-Err : goal.returns-in-Err
returns-in-Err g c =
    let L = g.L.LevelCount.LEVELS in let M = paths (direct_at L (g.P.PageTableFrameMapping.places c.args.mapping.now) c.args.root laid_in g.T.TableMemory.tables c.args.memory.now) in
    let r = is_range (g.met.P.PageTableFrameMapping.is_mapping c.args.mapping.now) g.L.LevelCount.at_least_four c.requires c.place.ensures.value c.place.ensures.aligned c.end_of-end.ensures.value c.end_of-end.ensures.inside c.end_of-end.ensures.aligned in
    let p = c.loop-spot.cursor.position in let within = subst (λ n. IsWithin c.args.range.start n p) r.end_is c.loop-spot.invariant.2 in
    ends_listed _ _ _ _ _ r.valid.valid r.three zero_not_used g.row.L.Denot _ _ r.first_whole r.last_whole _ _ _ _ within c.loop-spot.invariant.0 c.in-Err.end
    (subst (λ n. SearchFinds L c.args.root used M p n (Err c.in-Err.end)) r.end_is c.in-Err.ensures)

pub returns-then-count-pages : goal.returns-then-count-pages
returns-then-count-pages g c =
    let L = g.L.LevelCount.LEVELS in let M = paths (direct_at L (g.P.PageTableFrameMapping.places c.args.mapping.now) c.args.root laid_in g.T.TableMemory.tables c.args.memory.now) in
    let r = is_range (g.met.P.PageTableFrameMapping.is_mapping c.args.mapping.now) g.L.LevelCount.at_least_four c.requires c.place.ensures.value c.place.ensures.aligned c.end_of-end.ensures.value c.end_of-end.ensures.inside c.end_of-end.ensures.aligned in
    let p = c.loop-spot.cursor.position in let within = subst (λ n. IsWithin c.args.range.start n p) r.end_is c.loop-spot.invariant.2 in
    let found = subst (λ n. IsFirstPage L c.args.root used M p n c.in-Ok.spot true) r.end_is c.in-Ok.ensures in
    let stop = stops_more _ _ _ _ _ r.valid.valid r.three zero_not_used _ _ r.first_whole r.last_whole _ _ _ _ within c.loop-spot.invariant.0 c.in-Ok.spot true found refl
    (c.if-count-pages.true ∙ c.loop-spot.auto.pages) in
    subst (λ n. SeesPages {Levels = g.row.L.Denot} L used M c.args.range.start c.args.range.end c.args.pages.now c.loop-spot.pages (record { count = c.loop-spot.count; end = More n })) (sym c.at.ensures)
    (record { listed = stop.0; end = stop.1 })

pub loop-spot-preserved : goal.loop-spot-preserved
loop-spot-preserved g c =
    let L = g.L.LevelCount.LEVELS in let M = paths (direct_at L (g.P.PageTableFrameMapping.places c.args.mapping.now) c.args.root laid_in g.T.TableMemory.tables c.args.memory.now) in
    let r = is_range (g.met.P.PageTableFrameMapping.is_mapping c.args.mapping.now) g.L.LevelCount.at_least_four c.requires c.place.ensures.value c.place.ensures.aligned c.end_of-end.ensures.value c.end_of-end.ensures.inside c.end_of-end.ensures.aligned in
    let p = c.loop-spot.cursor.position in let first = c.args.range.start in let within = subst (λ n. IsWithin first n p) r.end_is c.loop-spot.invariant.2 in
    let listed = c.loop-spot.invariant.0 in let s = c.in-Ok.spot in let past = c.past-cursor.ensures in let three = r.three in
    let found = subst (λ n. IsFirstPage L c.args.root used M p n s true) r.end_is c.in-Ok.ensures in
    let few : c.loop-spot.count ≤ length c.loop-spot.pages = c.loop-spot.invariant.1 in let not_full = c.if-count-pages.false in let size = c.loop-spot.auto.pages in
    let array = set c.loop-spot.pages c.loop-spot.count c.word_told.result in
    let kept : length array ≡ length c.loop-spot.pages = length-set c.loop-spot.pages c.loop-spot.count c.word_told.result in
    let at = past.position ∙ next_is _ _ _ _ _ r.valid.valid r.three zero_not_used _ _ r.first_whole r.last_whole _ _ _ _ within listed s true found refl in (
      subst (λ n. ListsPages L used M first n (c.loop-spot.count + 1) c.args.pages.now array) (sym at)
          (listed_more _ _ _ _ _ r.valid.valid r.three zero_not_used _ _ r.first_whole r.last_whole _ _ _ _ within listed s true found refl
          (omega (arith, few, not_full, size)) array (ap (set c.loop-spot.pages c.loop-spot.count) c.word_told.ensures)),
      omega (arith, few, not_full, kept),
      subst₂ (IsWithin first) (sym r.end_is) (sym at) (next_within _ _ _ _ _ r.valid.valid r.three zero_not_used _ _ r.first_whole r.last_whole _ _ _ _ within listed s true found refl),
      λ less. goes_past _ _ _ _ r.valid.valid s found.spot (page_ends used s.level s.word found.page) (omega (arith, three)) c.past-cursor.result past.position past.table,
    )
