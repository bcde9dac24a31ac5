use Rattle.std.proofs.Common.{◌<◌, arith, rules}
use Rattle.x86_64_live.proofs.CleanUpsInWords.{cleaned_into, may_over}
use Rattle.x86_64_live.proofs.PagesChanged.{may_clean_now, valid_now}
use Rattle.x86_64_live.proofs.RangesDropped.{drops_range}
use Rattle.x86_64_live.proofs.ranges.drops.drop_range.Goals as goal

pub new-mapper-requires : goal.new-mapper-requires
new-mapper-requires g c =
    let some : 0 < g.L.LevelCount.LEVELS = (let four = g.L.LevelCount.at_least_four in omega (arith, four)) in
    valid_now g.L.LevelCount.LEVELS _ c.args.root (g.met.P.PageTableFrameMapping.is_mapping c.args.mapping) some _ _ _ _ c.requires.valid c.take_all-end.ensures.changes

pub clean_up_range-requires : goal.clean_up_range-requires
clean_up_range-requires g c =
    let some : 0 < g.L.LevelCount.LEVELS = (let four = g.L.LevelCount.at_least_four in omega (arith, four)) in
    may_over _ _ _ c.new-mapper.ensures.layout c.new-mapper.ensures.memory _ _
    (may_clean_now g.L.LevelCount.LEVELS _ c.args.root (g.met.P.PageTableFrameMapping.is_mapping c.args.mapping) some _ _ _ _ c.requires.valid c.take_all-end.ensures.changes _ _ c.requires)

pub returns-clause-drops : goal.returns-clause-drops
returns-clause-drops g c = let taken = c.take_all-end.ensures in
    drops_range _ _ _ _ _ _ _ (g.T.TableMemory.tables c.take_all-end.new.memory) taken.whole taken.end taken.changes taken.none
    (cleaned_into _ _ _ c.new-mapper.ensures.layout c.new-mapper.ensures.memory _ _ (search rules) _ _ _ _ (rw (c.range_inclusive-pages.ensures.start, c.range_inclusive-pages.ensures.end) at c.clean_up_range.ensures))
