use Rattle.x86_64_model.proofs.Lemmas.Machines.Giving.{giving_from}
use Rattle.x86_64_mappers.specs.Layouts.{direct_at}
use Rattle.x86_64.proofs.CleanUpSteps.{held_may_clean_up}
use Rattle.x86_64_c.proofs.Dropped.{dropped}
use Rattle.x86_64_c.proofs.EntryChanges.{plain}
use Rattle.x86_64_c.proofs.drops.PageDropRangeStep.take.Goals as goal

pub drop_range-end-requires : goal.drop_range-end-requires
drop_range-end-requires g c = held_may_clean_up _ _ _ _ (g.met.F.FrameStore.one_list _) c.requires

pub returns-clause-does : goal.returns-clause-does
returns-clause-does g c =
    let l = direct_at g.L.LevelCount.LEVELS (g.P.PageTableFrameMapping.places c.args.located.mapping) c.args.located.root in
    dropped l _ _ (g.T.TableMemory.tables c.args.memory.now) _ c.args.range.start c.args.range.end _ _ (g.met.F.FrameStore.one_list _) (g.met.F.FrameStore.one_list _) plain
    (giving_from _ g.met.F.FrameDeallocator.take_back_rearranges) (g.met.P.PageTableFrameMapping.is_mapping c.args.located.mapping) c.requires c.drop_range-end.result
    c.drop_range-end.ensures.drops _ _ c.of.ensures.status c.of.ensures.next
