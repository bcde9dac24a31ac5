use Rattle.std.proofs.Common.{◌/◌, ◌&&◌, is_some, sym, ap, ◌∙◌, eq-eqb}
use Rattle.x86_64_model.specs.Entry.{address}
use Rattle.x86_64_model.proofs.Lemmas.Entries.Words.{address-multiple}
use Rattle.x86_64_tables.specs.FrameSegments.{segment_place}
use Rattle.x86_64_tables.proofs.phys_memory.segment_mapping.SegmentMappingPageTableFrameMapping.covers.Goals as goal

pub returns : goal.returns
returns c =
    let frame = c.args.frame in
    let segments = c.args.self.now.segments.now in
    let start = c.start_address-start.ensures in
    let is_frame = eq-eqb (address frame) frame (address-multiple frame start.aligned start.below) in
    c.is_some.ensures
    ∙ ap is_some (c.place_of.ensures ∙ ap (segment_place segments) c.pfn.ensures)
    ∙ sym (ap (λ b. b && is_some (segment_place segments (frame / 4096))) is_frame)
