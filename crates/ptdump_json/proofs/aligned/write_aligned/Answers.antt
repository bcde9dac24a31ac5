use Rattle.std.proofs.Common.{◌∙◌, ◌++◌, ap, codes, refl, subst}
use Rattle.std.proofs.Output.{has_written_append}
use Rattle.std.specs.Fmt.{HasWritten}
use Rattle.text.specs.Numbers.{hexadecimal}
use Rattle.x86_64_model.specs.Mappings.{Mapping}
use Rattle.ptdump_json.specs.Columns.{aligned_place}
use Rattle.ptdump_json.proofs.aligned.write_aligned.Goals as goal

pub returns : goal.returns
returns g c = λ plain ok.
    let took = g.W.Write.write_str_gives in
    let place = aligned_place g.L.LevelCount.LEVELS c.args.mapping.now in
    let one = c.in_ok-write_place.ensures plain refl in
    let two = has_written_append took _ _ _ _ _ one (c.in_ok-write_str.ensures.writes one.plain refl) in
    subst (λ flags. HasWritten took c.args.f.now (place ++ codes " " ++ hexadecimal flags) c.write_hexadecimal.new.f)
    (c.bits.ensures tt ∙ ap (λ (m : Mapping). m.flags) c.mapping.view_is)
    (has_written_append took _ _ _ _ _ two (c.write_hexadecimal.ensures two.plain ok))
