use Rattle.std.proofs.Common.{◌≡◌, ◌∙◌}
use Rattle.std.proofs.lemmas.Bool.{and_parts}
use Rattle.x86_64_model.specs.Entry.{is_frame}
use Rattle.x86_64_mappers.proofs.Memory.OffsetTables.{canonical_from_reached}
use Rattle.x86_64_mappers.specs.Offsets.{is_reached}
use Rattle.x86_64_mappers.proofs.offset_page_table.phys_offset.PhysOffsetPageTableFrameMapping.frame_to_pointer.Goals as goal

pub add-address-requires : goal.add-address-requires
add-address-requires g c =
    let frame = c.args.frame in
    let offset = c.args.self.now in
    let number : c.as_u64.result ≡ frame = c.as_u64.ensures.value ∙ c.start_address.ensures.value in
    rw (number, c.self.view_is) (canonical_from_reached g.L.LevelCount.LEVELS offset frame (and_parts (is_frame frame) (is_reached g.L.LevelCount.LEVELS offset frame) c.requires).1)
