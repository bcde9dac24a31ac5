use Rattle.std.proofs.Common.{◌+◌, sym, subst₂, rules}
use Rattle.x86_64_model.proofs.Lemmas.Machines.Giving.{giving_from}
use Rattle.x86_64_model.specs.Hierarchy.{PoolFits}
use Rattle.x86_64_mappers.specs.Layouts.{direct_at}
use Rattle.x86_64.proofs.CleanUpSteps.{held_may_clean_up}
use Rattle.x86_64_c.proofs.EntryChanges.{of, plain}
use Rattle.x86_64_c.proofs.PoolSteps.{cleaned, clean_up_did}
use Rattle.x86_64_c.proofs.pool_calls.EmptyTablesRangeStep.take.Goals as goal

pub clean_up_range-requires : goal.clean_up_range-requires
clean_up_range-requires g c =
    let l = direct_at g.L.LevelCount.LEVELS (g.P.PageTableFrameMapping.places c.args.located.mapping) c.args.located.root in
    held_may_clean_up _ _ _ _ (g.met.F.FrameStore.one_list _)
    (subst₂ (λ l m. PoolFits (of l m) (g.F.FrameKeeper.serves c.args.frames.now) (g.F.FrameAllocator.supply c.args.frames.now)) (sym c.new-mapper.ensures.layout) (sym c.new-mapper.ensures.memory) c.requires)

pub returns-clause-does : goal.returns-clause-does
returns-clause-does g c =
    let l = direct_at g.L.LevelCount.LEVELS (g.P.PageTableFrameMapping.places c.args.located.mapping) c.args.located.root in
    cleaned l _ _ c.clean_up_range.ensures.serves (g.T.TableMemory.tables c.args.memory.now) _ c.args.range.start (c.args.range.end + 0xfff) _ _ (g.met.F.FrameStore.one_list _) (g.met.F.FrameStore.one_list _) plain
    (giving_from _ g.met.F.FrameDeallocator.take_back_rearranges) (g.met.P.PageTableFrameMapping.is_mapping c.args.located.mapping) c.requires
    (clean_up_did _ _ l _ _ c.new-mapper.ensures.layout c.new-mapper.ensures.memory (search rules) _ _ _ _ _ c.clean_up_range.ensures.cleans)
