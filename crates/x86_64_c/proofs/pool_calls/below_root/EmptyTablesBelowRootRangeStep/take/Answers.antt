use Rattle.std.proofs.Common.{◌+◌, sym, subst₂, rules}
use Rattle.x86_64_model.proofs.Lemmas.Machines.Giving.{giving_from}
use Rattle.x86_64_model.specs.Hierarchy.{PoolFits}
use Rattle.x86_64_mappers.specs.Layouts.{direct_at}
use Rattle.x86_64.proofs.CleanUpSteps.{held_may_clean_up}
use Rattle.x86_64_c.proofs.BelowRootSteps.{cleaned_below}
use Rattle.x86_64_c.proofs.EntryChanges.{of}
use Rattle.x86_64_c.proofs.pool_calls.below_root.EmptyTablesBelowRootRangeStep.take.Goals as goal

pub clean_up_below_root-requires : goal.clean_up_below_root-requires
clean_up_below_root-requires g c =
    let l = direct_at g.L.LevelCount.LEVELS (g.P.PageTableFrameMapping.places c.args.located.mapping) c.args.located.root in
    held_may_clean_up _ _ _ _ (g.met.F.FrameStore.one_list _)
    (subst₂ (λ l m. PoolFits (of l m) (g.F.FrameKeeper.serves c.args.frames.now) (g.F.FrameAllocator.supply c.args.frames.now)) (sym c.new-mapper.ensures.layout) (sym c.new-mapper.ensures.memory) c.requires)

pub returns-clause-does : goal.returns-clause-does
returns-clause-does g c =
    let l = direct_at g.L.LevelCount.LEVELS (g.P.PageTableFrameMapping.places c.args.located.mapping) c.args.located.root in
    cleaned_below _ _ l _ _ c.new-mapper.ensures.layout c.new-mapper.ensures.memory (search rules) _ _ _ (giving_from _ g.met.F.FrameDeallocator.take_back_rearranges) _ _ _ _
    (g.met.F.FrameStore.one_list _) (g.met.F.FrameStore.one_list _) c.args.range.start (c.args.range.end + 0xfff) c.requires
    c.clean_up_below_root.ensures
