use Rattle.std.proofs.Common.{◌/◌, ◌&&◌, nat_le, sym, ap, ◌∙◌, eq-eqb}
use Rattle.x86_64_model.specs.Entry.{address}
use Rattle.x86_64_model.proofs.Lemmas.Entries.Words.{address-multiple}
use Rattle.x86_64_tables.proofs.phys_memory.shift_mapping.ShiftMappingPageTableFrameMapping.covers.Goals as goal

pub returns : goal.returns
returns c =
    let frame = c.args.frame in
    let start = c.start_address-start.ensures in
    let is_frame = eq-eqb (address frame) frame (address-multiple frame start.aligned start.below) in
    ap (nat_le c.args.self.now.first) c.pfn.ensures ∙ sym (ap (λ b. b && nat_le c.args.self.now.first (frame / 4096)) is_frame)
