use Rattle.std.proofs.Common.{◌≡◌, ◌&&◌, sym, ap, ◌∙◌, eq-eqb}
use Rattle.x86_64_model.specs.Entry.{address}
use Rattle.x86_64_model.proofs.Lemmas.Entries.Words.{address-multiple}
use Rattle.x86_64_mappers.proofs.Memory.OffsetTables.{reached_alike}
use Rattle.x86_64_mappers.specs.Offsets.{is_reached}
use Rattle.x86_64_mappers.proofs.offset_page_table.phys_offset.PhysOffsetPageTableFrameMapping.covers.Goals as goal

pub returns : goal.returns
returns g c =
    let frame = c.args.frame in
    let offset = c.args.self.now in
    let start = c.start_address.ensures in
    let number : c.as_u64.result ≡ frame = c.as_u64.ensures.value ∙ start.value in
    let is_frame = eq-eqb (address frame) frame (address-multiple frame start.aligned start.below) in
    reached_alike g.L.LevelCount.LEVELS c.reaches.result offset frame (rw (number, c.self.view_is) at c.reaches.ensures) ∙ sym (ap (λ b. b && is_reached g.L.LevelCount.LEVELS offset frame) is_frame)
