use Rattle.std.proofs.Common.{refl, sym, ap, ◌∙◌}
use Rattle.x86_64_live.specs.MapsOrNothing.{call_for}
use Rattle.x86_64_model.proofs.Lemmas.Machines.Giving.{giving_from}
use Rattle.x86_64_mappers.specs.Layouts.{direct_at}
use Rattle.x86_64_tables.specs.PageTableFlags.{bits_of}
use Rattle.x86_64_c.proofs.EntryChanges.{plain, supply_over}
use Rattle.x86_64_c.proofs.OrNothing.{if_ok, if_refused, mapped_or_nothing, same_serves}
use Rattle.x86_64_c.proofs.PoolSteps.{refused, seen_allows}
use Rattle.x86_64_c.proofs.maps.PageMapPoolStep.take.Goals as goal

pub may_map-requires : goal.may_map-requires
may_map-requires g c = c.requires.fits.valid

pub map_or_nothing-mapped-requires-clause-may : goal.map_or_nothing-mapped-requires-clause-may
map_or_nothing-mapped-requires-clause-may g c =
    let l = direct_at g.L.LevelCount.LEVELS (g.P.PageTableFrameMapping.places c.args.located.mapping) c.args.located.root in
    record {
      fits = supply_over l l _ _ refl c.may_map.ensures.kept _ _ c.requires.fits;
      allowed = seen_allows l l _ _ refl c.may_map.ensures.kept (call_for g.S.PageSize.LEVEL c.args.self.now) ∙ sym c.may_map.ensures.answer ∙ c.if-not-may_map.false;
    }

pub returns-then-not-may_map-clause-does : goal.returns-then-not-may_map-clause-does
returns-then-not-may_map-clause-does g c =
    let l = direct_at g.L.LevelCount.LEVELS (g.P.PageTableFrameMapping.places c.args.located.mapping) c.args.located.root in
    let map = c.args.self.now in
    if_ok _ _ _ _ _ _
    (refused map.page map.frame (bits_of map.flags) (bits_of map.parent_flags) l _ (g.T.TableMemory.tables c.args.memory.now) c.requires.fits g.S.PageSize.LEVEL
    (sym c.may_map.ensures.answer ∙ c.if-not-may_map.true) _ c.may_map.ensures.kept)

pub returns-clause-does : goal.returns-clause-does
returns-clause-does g c =
    let l = direct_at g.L.LevelCount.LEVELS (g.P.PageTableFrameMapping.places c.args.located.mapping) c.args.located.root in
    mapped_or_nothing l _ (g.T.TableMemory.tables c.args.memory.now) c.args.self.now _ _ _ g.L.LevelCount.at_least_four plain (giving_from _ g.met.F.FrameDeallocator.take_back_rearranges)
    (g.met.P.PageTableFrameMapping.is_mapping c.args.located.mapping) c.requires.fits _ c.map_or_nothing-mapped.result c.map_or_nothing-mapped.ensures.page c.mapped_status.ensures
    g.S.PageSize.LEVEL g.S.PageSize.low g.S.PageSize.high c.may_map.ensures.kept c.map_or_nothing-mapped.ensures.maps (sym c.may_map.ensures.answer ∙ c.if-not-may_map.false)

pub returns-clause-unchanged : goal.returns-clause-unchanged
returns-clause-unchanged g c = λ refuses.
    let stay = if_refused _ c.map_or_nothing-mapped.result _ c.mapped_status.ensures refuses c.map_or_nothing-mapped.ensures.refused in
    (ap g.T.TableMemory.tables stay.0 ∙ c.may_map.ensures.kept, stay.1)

pub returns-clause-serves : goal.returns-clause-serves
returns-clause-serves g c = same_serves _ _ _ _ g.S.PageSize.LEVEL c.args.self.now c.map_or_nothing-mapped.result c.map_or_nothing-mapped.ensures.maps
