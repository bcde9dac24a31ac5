use Rattle.std.proofs.Common.{IfOk, ◌≡◌, ◌%◌, inl, ap, ◌∙◌, subst, sym}
use Rattle.x86_64_model.specs.Call.{MapTo}
use Rattle.x86_64_model.specs.Hierarchy.{MayMap, DoesMap}
use Rattle.x86_64_model.specs.Position.{IsCanonical, position_count}
use Rattle.x86_64_tables.specs.MapperAnswers.{map_answer}
use Rattle.x86_64_tables.specs.PageTableFlags.{bits_of}
use Rattle.x86_64_mappers.proofs.Way.PagePaths.{starts_there, own_position}
use Rattle.x86_64_mappers.specs.PageAnswers.{ArrivesIfPresent}
use Rattle.x86_64_mappers.proofs.calls.identity_map.Goals as goal

pub new-start-requires : goal.new-start-requires
new-start-requires g c = subst (IsCanonical g.L.LevelCount.LEVELS) (sym (c.as_u64.ensures.value ∙ c.start_address.ensures.value)) (inl c.requires.low)

pub map_to-requires : goal.map_to-requires
map_to-requires g c =
    let h = g.M.Tables.hierarchy c.args.mapper.now in
    let supply = g.A.FrameAllocator.supply c.args.frame_allocator.now in
    let value = c.as_u64.ensures.value ∙ c.start_address.ensures.value in
    let here = c.new-start.ensures.position ∙ ap (λ n. n % position_count g.L.LevelCount.LEVELS) value ∙ own_position g.L.LevelCount.LEVELS c.args.frame g.L.LevelCount.known_levels c.requires.low in
    let page = starts_there c.args.frame g.S.PageSize.SIZE _ _ c.start_address.ensures.aligned here c.containing_address.ensures in
    subst (λ p. MayMap h supply (MapTo g.S.PageSize.LEVEL p c.args.frame (bits_of c.args.flags))) (sym page) c.requires.may

pub returns-clause-does : goal.returns-clause-does
returns-clause-does g c =
    let h = g.M.Tables.hierarchy c.args.mapper.now in
    let supply = g.A.FrameAllocator.supply c.args.frame_allocator.now in
    let value = c.as_u64.ensures.value ∙ c.start_address.ensures.value in
    let here = c.new-start.ensures.position ∙ ap (λ n. n % position_count g.L.LevelCount.LEVELS) value ∙ own_position g.L.LevelCount.LEVELS c.args.frame g.L.LevelCount.known_levels c.requires.low in
    let page = starts_there c.args.frame g.S.PageSize.SIZE _ _ c.start_address.ensures.aligned here c.containing_address.ensures in
    let after = g.M.Tables.hierarchy c.map_to.new.mapper in
    let rest = g.A.FrameAllocator.supply c.map_to.new.frame_allocator in
    let answer = map_answer c.args.frame c.map_to.result in
    record {
      map = subst (λ p. DoesMap h supply (MapTo g.S.PageSize.LEVEL p c.args.frame (bits_of c.args.flags)) answer after rest) page c.map_to.ensures.does.map;
      serves = c.map_to.ensures.does.serves;
    }

pub returns-clause-page : goal.returns-clause-page
returns-clause-page g c =
    let value = c.as_u64.ensures.value ∙ c.start_address.ensures.value in
    let here = c.new-start.ensures.position ∙ ap (λ n. n % position_count g.L.LevelCount.LEVELS) value ∙ own_position g.L.LevelCount.LEVELS c.args.frame g.L.LevelCount.known_levels c.requires.low in
    let page = starts_there c.args.frame g.S.PageSize.SIZE _ _ c.start_address.ensures.aligned here c.containing_address.ensures in
    subst (λ p. IfOk c.map_to.result (λ flush. flush ≡ p)) page c.map_to.ensures.page

pub returns-clause-arrives : goal.returns-clause-arrives
returns-clause-arrives g c =
    let value = c.as_u64.ensures.value ∙ c.start_address.ensures.value in
    let here = c.new-start.ensures.position ∙ ap (λ n. n % position_count g.L.LevelCount.LEVELS) value ∙ own_position g.L.LevelCount.LEVELS c.args.frame g.L.LevelCount.known_levels c.requires.low in
    let page = starts_there c.args.frame g.S.PageSize.SIZE _ _ c.start_address.ensures.aligned here c.containing_address.ensures in
    let after = g.M.Tables.hierarchy c.map_to.new.mapper in
    subst (λ p. IfOk c.map_to.result (λ _. ArrivesIfPresent after g.S.PageSize.SIZE p c.args.frame (bits_of c.args.flags))) page c.map_to.ensures.arrives
