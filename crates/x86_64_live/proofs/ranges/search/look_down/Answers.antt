use Rattle.std.proofs.Common.{◌≡◌, ◌∙◌, ◌≤◌, ◌-◌, sym, ap, subst, arith}
use Rattle.x86_64_live.proofs.PageSpots.{is_below, spot_read, goes_below}
use Rattle.x86_64_mappers.specs.Layouts.{direct_at}
use Rattle.x86_64_live.specs.declared.ranges.search.Cursor.{Cursor}
use Rattle.x86_64_model.specs.Hierarchy.{◌laid_in◌, paths, words}
use Rattle.x86_64_live.proofs.ranges.search.look_down.Goals as goal

pub loop-below-init : goal.loop-below-init
loop-below-init g c =
    let L = c.args.levels in let s = c.read-spot.result in let e = c.read-spot.ensures in (
      e.position,
      subst (λ n. 1 ≤ n) (sym e.level) c.requires.low,
      subst (λ n. n ≤ L) (sym e.level) c.requires.high,
      λ root valid way. let h = direct_at L (g.P.PageTableFrameMapping.places c.args.mapping.now) root laid_in g.T.TableMemory.tables c.args.memory.now in
          spot_read L (words h) root (paths h) valid.valid c.args.from.now s e.position e.level e.frame e.word way,
    )

pub loop-below-preserved : goal.loop-below-preserved
loop-below-preserved g c =
    let L = c.args.levels in let s = c.read-spot-in-Some.result in let e = c.read-spot-in-Some.ensures in
    let before = c.loop-below.spot in let at = c.in-Some.below in
    let is = sym c.below.ensures ∙ c.in-Some.is in
    let below = is_below before at c.loop-below.invariant.1 is in let more = below.more in let high = c.loop-below.invariant.2 in
    let level : before.level - 1 ≡ s.level = ap (λ (c : Cursor). c.level) below.cursor ∙ sym e.level in (
      e.position ∙ sym (ap (λ (c : Cursor). c.position) below.cursor) ∙ c.loop-below.invariant.0,
      omega (arith, level, more),
      omega (arith, level, high),
      λ root valid way. let h = direct_at L (g.P.PageTableFrameMapping.places c.args.mapping.now) root laid_in g.T.TableMemory.tables c.args.memory.now in
          spot_read L (words h) root (paths h) valid.valid at s e.position e.level e.frame e.word
          (goes_below L (words h) root (paths h) valid.valid before at (c.loop-below.invariant.3 root valid way) is),
    )
