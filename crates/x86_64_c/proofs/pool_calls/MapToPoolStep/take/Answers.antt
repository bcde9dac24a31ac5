use Rattle.std.proofs.Common.{true≢false, sym, ◌∙◌, rules}
use Rattle.x86_64_model.specs.Call.{MapToWithTableFlags}
use Rattle.x86_64_model.proofs.Lemmas.Machines.Giving.{giving_from}
use Rattle.x86_64_mappers.specs.Layouts.{direct_at}
use Rattle.x86_64_tables.specs.PageTableFlags.{bits_of}
use Rattle.x86_64_c.proofs.EntryChanges.{plain, supply_over, valid_over}
use Rattle.x86_64_c.proofs.PoolSteps.{mapped, map_did, refused, seen_allows}
use Rattle.x86_64_c.proofs.pool_calls.MapToPoolStep.take.Goals as goal

pub returns-then-not-map_allowed-clause-does : goal.returns-then-not-map_allowed-clause-does
returns-then-not-map_allowed-clause-does g c =
    let l = direct_at g.L.LevelCount.LEVELS (g.P.PageTableFrameMapping.places c.args.located.mapping) c.args.located.root in
    let level = g.S.PageSize.LEVEL in
    let map = MapToWithTableFlags level c.args.self.now.map.page c.args.self.now.map.frame (bits_of c.args.self.now.map.flags) (bits_of c.args.self.now.map.parent_flags) in
    refused c.args.self.now.map.page c.args.self.now.map.frame (bits_of c.args.self.now.map.flags) (bits_of c.args.self.now.map.parent_flags) l _ (g.T.TableMemory.tables c.args.memory.now) c.requires.fits level
    (sym (seen_allows _ l _ _ c.new-mapper.ensures.layout c.new-mapper.ensures.memory map) ∙ sym c.map_allowed.ensures ∙ c.if-not-map_allowed.true) _ (search rules)

pub returns-clause-does : goal.returns-clause-does
returns-clause-does g c =
    let l = direct_at g.L.LevelCount.LEVELS (g.P.PageTableFrameMapping.places c.args.located.mapping) c.args.located.root in
    let level = g.S.PageSize.LEVEL in
    let map = MapToWithTableFlags level c.args.self.now.map.page c.args.self.now.map.frame (bits_of c.args.self.now.map.flags) (bits_of c.args.self.now.map.parent_flags) in
    mapped c.args.self.now.map.page c.args.self.now.map.frame (bits_of c.args.self.now.map.flags) (bits_of c.args.self.now.map.parent_flags) l _ (g.T.TableMemory.tables c.args.memory.now) _ c.map_to_with_table_flags-mapped.ensures.does.serves _ _ g.L.LevelCount.at_least_four plain
    (giving_from _ g.met.F.FrameDeallocator.take_back_rearranges) (g.met.P.PageTableFrameMapping.is_mapping c.args.located.mapping) c.requires.fits c.map_to_with_table_flags-mapped.result c.map_to_with_table_flags-mapped.ensures.page c.mapped_status.ensures
    level g.S.PageSize.low g.S.PageSize.high
    (map_did _ _ l _ _ c.new-mapper.ensures.layout c.new-mapper.ensures.memory (search rules) _ map _ _ c.map_to_with_table_flags-mapped.ensures.does.map)
    (sym (seen_allows _ l _ _ c.new-mapper.ensures.layout c.new-mapper.ensures.memory map) ∙ sym c.map_allowed.ensures ∙ c.if-not-map_allowed.false)

pub map_allowed-requires : goal.map_allowed-requires
map_allowed-requires g c = valid_over _ _ _ _ c.new-mapper.ensures.layout c.new-mapper.ensures.memory c.requires.fits.valid

pub map_to_with_table_flags-mapped-requires : goal.map_to_with_table_flags-mapped-requires
map_to_with_table_flags-mapped-requires g c = record {
  fits = supply_over _ _ _ _ c.new-mapper.ensures.layout c.new-mapper.ensures.memory _ _ c.requires.fits;
  allowed = sym c.map_allowed.ensures ∙ c.if-not-map_allowed.false;
}

pub returns-clause-unchanged : goal.returns-clause-unchanged
returns-clause-unchanged g c = λ never. absurd (true≢false (sym never))

pub returns-clause-serves : goal.returns-clause-serves
returns-clause-serves g c = c.map_to_with_table_flags-mapped.ensures.does.serves

pub new-mapper-requires : goal.new-mapper-requires
new-mapper-requires g c = c.requires.fits.valid

pub returns-then-not-map_allowed-clause-unchanged : goal.returns-then-not-map_allowed-clause-unchanged
returns-then-not-map_allowed-clause-unchanged g c = λ never. absurd (true≢false (sym never))
