use Rattle.std.proofs.Common.{◌∙◌, subst}
use Rattle.x86_64_model.specs.private.MapperCalls.{MapsPath}
use Rattle.x86_64_model.specs.Refusal.{Done}
use Rattle.x86_64_tables.specs.PageTableFlags.{bits_of}
use Rattle.x86_64_mappers.proofs.calls.map_to_with_table_flags.Goals as goal

pub returns-clause-does : goal.returns-clause-does
returns-clause-does g c =
    let h = g.M.Tables.hierarchy c.args.mapper.now in
    let supply = g.A.FrameAllocator.supply c.args.frame_allocator.now in
    let after = g.M.Tables.hierarchy c.map_path.new.mapper in
    let rest = g.A.FrameAllocator.supply c.map_path.new.frame_allocator in
    record {
      map = subst (λ q. MapsPath h supply q c.args.frame (bits_of c.args.flags) (bits_of c.args.parent_flags) (Done c.args.frame) after rest)
          (c.indices.ensures ∙ c.path_of_page-path.ensures.path) c.in_ok-map_path.ensures.maps;
      serves = c.map_path.ensures.serves;
    }
