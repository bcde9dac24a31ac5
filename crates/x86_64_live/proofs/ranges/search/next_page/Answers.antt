use Rattle.std.proofs.Common.{◌≡◌, ◌∙◌, ◌<◌, ◌≤◌, ◌+◌, ◌*◌, ◌/◌, ◌%◌, sym, ap, subst, subst₂, arith}
use Rattle.x86_64_live.proofs.PageSpots.{end_aligned, none_joined, span_has_none, goes_past}
use Rattle.x86_64_live.proofs.PagesBetween.{zero_not_wanted}
use Rattle.x86_64_mappers.specs.Layouts.{direct_at}
use Rattle.x86_64_live.specs.PageRanges.{HasNoPage}
use Rattle.x86_64_live.specs.private.RangeSteps.{IsSpot, LooksDown, wanted_by}
use Rattle.x86_64_model.specs.Hierarchy.{◌laid_in◌, paths, words}
use Rattle.x86_64_model.specs.Position.{span}
use Rattle.x86_64_model.proofs.Lemmas.Mappings.SpanEnds.{span_end_after}
use Rattle.x86_64_live.proofs.ranges.search.next_page.Goals as goal

pub loop-cursor-preserved : goal.loop-cursor-preserved
loop-cursor-preserved g c =
    let L = g.L.LevelCount.LEVELS in let root = c.args.root in
    let places = g.P.PageTableFrameMapping.places c.args.mapping.now in let tables = g.T.TableMemory.tables c.args.memory.now in
    let h = direct_at L places root laid_in tables in
    let T = words h in let M = paths h in let valid = c.requires.valid.valid in
    let before = c.loop-cursor.cursor in let s = c.look_down-spot.result in let e = c.look_down-spot.ensures in let past = c.past-cursor.ensures in
    let wanted = wanted_by c.args.wanted in
    let four = g.L.LevelCount.at_least_four in
    let spot : IsSpot L root M s = subst (λ n. LooksDown n places tables before s) c.LEVELS.ensures e.spot root c.requires.valid (c.loop-cursor.invariant.2 c.loop-cursor-test.true) in
    let none : HasNoPage L wanted M s.position (s.position / span s.level * span s.level + span s.level) =
    span_has_none L T root M valid s spot e.ends wanted (zero_not_wanted c.args.wanted) (omega (arith, four)) (sym c.is_page.ensures ∙ c.if-is_page.false) in
    let first : c.args.from.position ≤ before.position = c.loop-cursor.invariant.0 in
    let start : before.position ≡ s.position = sym e.position in
    let end : s.position < s.position / span s.level * span s.level + span s.level = span_end_after s.level s.position in
    let next : s.position / span s.level * span s.level + span s.level ≡ c.past-cursor.result.position = sym past.position in (
      omega (arith, first, start, end, next),
      ap (λ p. p % 4096) past.position ∙ end_aligned s.level (s.position / span s.level) e.low,
      λ more. goes_past L T root M valid s spot e.ends (omega (arith, four)) c.past-cursor.result past.position past.table,
      none_joined L T root M valid wanted c.args.from.position before.position c.past-cursor.result.position c.loop-cursor.invariant.3
          (subst₂ (HasNoPage L wanted M) (sym start) next none),
    )
