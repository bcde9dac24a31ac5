use Rattle.std.proofs.Common.{ℕ, rules, subst, sym}
use Rattle.x86_64_model.specs.Call.{MapToWithTableFlags}
use Rattle.x86_64_model.specs.Hierarchy.{MayMap, DoesMap}
use Rattle.x86_64_tables.specs.MapperAnswers.{map_answer}
use Rattle.x86_64_tables.specs.PageTableFlags.{bits_of}
use Rattle.x86_64_mappers.proofs.Map.MapArrivals.{map_arrives}
use Rattle.x86_64_mappers.proofs.calls.map_to.Goals as goal

pub map_to_with_table_flags-requires : goal.map_to_with_table_flags-requires
map_to_with_table_flags-requires g c =
    let h = g.M.Tables.hierarchy c.args.mapper.now in
    let supply = g.A.FrameAllocator.supply c.args.frame_allocator.now in
    subst (λ (more : ℕ). MayMap h supply (MapToWithTableFlags g.S.PageSize.LEVEL c.args.page c.args.frame (bits_of c.args.flags) more)) (sym c.parent_flags-parent_flags.ensures) c.requires

pub returns-clause-does : goal.returns-clause-does
returns-clause-does g c =
    let h = g.M.Tables.hierarchy c.args.mapper.now in
    let supply = g.A.FrameAllocator.supply c.args.frame_allocator.now in
    let done = c.map_to_with_table_flags in
    let after = g.M.Tables.hierarchy done.new.mapper in
    let rest = g.A.FrameAllocator.supply done.new.frame_allocator in
    let answer = map_answer c.args.frame done.result in
    record {
      map = subst (λ (more : ℕ). DoesMap h supply (MapToWithTableFlags g.S.PageSize.LEVEL c.args.page c.args.frame (bits_of c.args.flags) more) answer after rest)
          c.parent_flags-parent_flags.ensures done.ensures.does.map;
      serves = done.ensures.does.serves;
    }

pub returns-clause-arrives : goal.returns-clause-arrives
returns-clause-arrives g c =
    let mapper = c.args.mapper.now in
    let h = g.M.Tables.hierarchy mapper in
    let supply = g.A.FrameAllocator.supply c.args.frame_allocator.now in
    let done = c.map_to_with_table_flags in
    let after = g.M.Tables.hierarchy done.new.mapper in
    let rest = g.A.FrameAllocator.supply done.new.frame_allocator in
    map_arrives h supply g.S.PageSize.LEVEL g.S.PageSize.SIZE c.args.page c.args.frame (bits_of c.args.flags) _ g.S.PageSize.size g.S.PageSize.low g.S.PageSize.high
    (g.met.M.Tables.at_least_four mapper) (g.M.Tables.added_flags mapper).adds (search rules) (search rules) (search rules) after rest c.requires c.parent_flags-parent_flags.ensures done.result done.ensures.does.map
