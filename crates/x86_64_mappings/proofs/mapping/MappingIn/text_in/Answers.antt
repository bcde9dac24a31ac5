use Rattle.std.proofs.Common.{◌∙◌, ap}
use Rattle.x86_64_mappings.specs.Texts.{line_text, mapping_text}
use Rattle.x86_64_mappings.proofs.mapping.MappingIn.text_in.Goals as goal

pub returns : goal.returns
returns g c =
    let m = c.self.inside in
    let start = c.as_u64-start.ensures.value in
    let size = c.size.ensures in
    let frame = c.as_u64-frame.ensures.value ∙ c.start_address.ensures in
    let given = c.bits-flags.ensures tt in
    c.line_in.ensures ∙ (λ i. line_text (start i) (size i) (frame i) m.rights (given i)) ∙ ap (mapping_text g.L.LevelCount.LEVELS) c.self.view_is
