use Rattle.std.proofs.Common.{◌∙◌, ℕ, Err, inl, refl, sym, subst, arith}
use Rattle.std.proofs.lemmas.Bool.{and_parts}
use Rattle.x86_64_live.proofs.PagesListed.{ends_alone, none_reached}
use Rattle.x86_64_live.proofs.RangeState.{changes_all, goes_on, is_range, none_on, starts, table_there, valid_here, was_found, within_range}
use Rattle.x86_64_mappers.specs.Layouts.{direct_at}
use Rattle.x86_64_live.specs.PageRanges.{HasNoPage}
use Rattle.x86_64_live.specs.private.RangeSteps.{KeepPages, SearchFinds}
use Rattle.x86_64_model.specs.Entry.{used}
use Rattle.x86_64_model.specs.Hierarchy.{◌laid_in◌, paths}
use Rattle.x86_64_model.proofs.Lemmas.Hierarchies.Changes.{zero_not_used}
use Rattle.x86_64_live.proofs.ranges.drops.take_all.Goals as goal

abbrev zero : ℕ → ℕ
zero _ = 0

keeps : KeepPages zero
keeps e large = inl refl

pub loop-spot-init : goal.loop-spot-init
loop-spot-init g c =
    let L = g.L.LevelCount.LEVELS in let M = paths (direct_at L (g.P.PageTableFrameMapping.places c.args.mapping.now) c.args.root laid_in g.T.TableMemory.tables c.args.memory.now) in
    let r = is_range (g.met.P.PageTableFrameMapping.is_mapping c.args.mapping.now) g.L.LevelCount.at_least_four c.requires c.place.ensures.value c.place.ensures.aligned c.end_of-end.ensures.value c.end_of-end.ensures.inside c.end_of-end.ensures.aligned in
    let at = c.at_root-cursor.ensures in let start = at.position ∙ c.place.ensures.value in (
      starts r used zero c.at_root-cursor.result start at.frame at.level,
      subst (HasNoPage L used M c.args.range.start) (sym start) (λ x level from to low high. absurd (omega (arith, from, to))),
      refl,
    )

pub next_page-requires-clause-valid : goal.next_page-requires-clause-valid
next_page-requires-clause-valid g c =
    let r = is_range (g.met.P.PageTableFrameMapping.is_mapping c.args.mapping.now) g.L.LevelCount.at_least_four c.requires c.place.ensures.value c.place.ensures.aligned c.end_of-end.ensures.value c.end_of-end.ensures.inside c.end_of-end.ensures.aligned in
    valid_here r c.loop-spot.invariant.0

pub returns-in-Err-clause-whole : goal.returns-in-Err-clause-whole
returns-in-Err-clause-whole g c =
    let r = is_range (g.met.P.PageTableFrameMapping.is_mapping c.args.mapping.now) g.L.LevelCount.at_least_four c.requires c.place.ensures.value c.place.ensures.aligned c.end_of-end.ensures.value c.end_of-end.ensures.inside c.end_of-end.ensures.aligned in
    let here = c.loop-spot.invariant.0 in
    (ends_alone _ used _ _ _ r.valid.valid r.three zero_not_used g.row.L.Denot _ _ r.first_whole r.last_whole _ (within_range r here) here.whole c.in-Err.end (was_found r here (Err c.in-Err.end) c.in-Err.ensures)).0

pub returns-in-Err-clause-end : goal.returns-in-Err-clause-end
returns-in-Err-clause-end g c =
    let r = is_range (g.met.P.PageTableFrameMapping.is_mapping c.args.mapping.now) g.L.LevelCount.at_least_four c.requires c.place.ensures.value c.place.ensures.aligned c.end_of-end.ensures.value c.end_of-end.ensures.inside c.end_of-end.ensures.aligned in
    let here = c.loop-spot.invariant.0 in
    (ends_alone _ used _ _ _ r.valid.valid r.three zero_not_used g.row.L.Denot _ _ r.first_whole r.last_whole _ (within_range r here) here.whole c.in-Err.end (was_found r here (Err c.in-Err.end) c.in-Err.ensures)).1

pub returns-in-Err-clause-changes : goal.returns-in-Err-clause-changes
returns-in-Err-clause-changes g c =
    let r = is_range (g.met.P.PageTableFrameMapping.is_mapping c.args.mapping.now) g.L.LevelCount.at_least_four c.requires c.place.ensures.value c.place.ensures.aligned c.end_of-end.ensures.value c.end_of-end.ensures.inside c.end_of-end.ensures.aligned in
    changes_all r c.loop-spot.invariant.0 zero_not_used c.in-Err.end c.in-Err.ensures

pub returns-in-Err-clause-none : goal.returns-in-Err-clause-none
returns-in-Err-clause-none g c =
    let L = g.L.LevelCount.LEVELS in let M = paths (direct_at L (g.P.PageTableFrameMapping.places c.args.mapping.now) c.args.root laid_in g.T.TableMemory.tables c.loop-spot.memory) in
    let r = is_range (g.met.P.PageTableFrameMapping.is_mapping c.args.mapping.now) g.L.LevelCount.at_least_four c.requires c.place.ensures.value c.place.ensures.aligned c.end_of-end.ensures.value c.end_of-end.ensures.inside c.end_of-end.ensures.aligned in
    none_reached _ used _ _ _ (valid_here r c.loop-spot.invariant.0).valid r.three zero_not_used g.row.L.Denot _ _ _ c.loop-spot.invariant.1 c.in-Err.end
    (subst (λ n. SearchFinds {Levels = g.row.L.Denot} L c.args.root used M c.loop-spot.cursor.position n (Err c.in-Err.end)) r.end_is c.in-Err.ensures)

pub set_word_at-requires-clause-there : goal.set_word_at-requires-clause-there
set_word_at-requires-clause-there g c =
    let r = is_range (g.met.P.PageTableFrameMapping.is_mapping c.args.mapping.now) g.L.LevelCount.at_least_four c.requires c.place.ensures.value c.place.ensures.aligned c.end_of-end.ensures.value c.end_of-end.ensures.inside c.end_of-end.ensures.aligned in
    table_there r c.loop-spot.invariant.0 c.in-Ok.spot c.in-Ok.ensures.spot (and_parts _ _ c.in-Ok.ensures.page).0

pub loop-spot-preserved : goal.loop-spot-preserved
loop-spot-preserved g c =
    let r = is_range (g.met.P.PageTableFrameMapping.is_mapping c.args.mapping.now) g.L.LevelCount.at_least_four c.requires c.place.ensures.value c.place.ensures.aligned c.end_of-end.ensures.value c.end_of-end.ensures.inside c.end_of-end.ensures.aligned in
    let here = c.loop-spot.invariant.0 in let s = c.in-Ok.spot in let past = c.past-cursor.ensures in let is_used = (and_parts _ _ c.in-Ok.ensures.page).0 in (
      goes_on r here zero_not_used keeps s c.in-Ok.ensures is_used _ c.set_word_at.ensures.word c.past-cursor.result past.position past.table,
      none_on r here zero_not_used keeps s c.in-Ok.ensures is_used _ c.set_word_at.ensures.word c.past-cursor.result past.position past.table (λ e. refl) refl c.loop-spot.invariant.1,
      c.set_word_at.ensures.lent ∙ c.loop-spot.invariant.2,
    )
