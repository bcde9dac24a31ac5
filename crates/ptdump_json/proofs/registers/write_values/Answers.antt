use Rattle.std.proofs.Common.{refl}
use Rattle.std.proofs.Output.{has_written_append}
use Rattle.ptdump_json.specs.InfoTexts.{values_text}
use Rattle.ptdump_json.proofs.registers.write_values.Goals as goal

pub returns : goal.returns
unfolding values_text
returns g c = λ plain ok.
    let took = g.W.Write.write_str_gives in
    let one = c.in_ok-write_register.ensures plain refl in
    let two = has_written_append took _ _ _ _ _ one (c.in_ok-write_str.ensures.writes one.plain refl) in
    let three = has_written_append took _ _ _ _ _ two (c.in_ok-write_register-2.ensures two.plain refl) in
    let four = has_written_append took _ _ _ _ _ three (c.in_ok-write_str-2.ensures.writes three.plain refl) in
    has_written_append took _ _ _ _ _ four (c.write_register-3.ensures four.plain ok)
