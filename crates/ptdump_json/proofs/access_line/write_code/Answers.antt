use Rattle.std.proofs.Common.{refl, subst}
use Rattle.std.proofs.Output.{has_written_append}
use Rattle.std.specs.Fmt.{HasWritten}
use Rattle.ptdump_json.specs.Accesses.{code_text}
use Rattle.ptdump_json.proofs.access_line.write_code.Goals as goal

pub returns : goal.returns
unfolding code_text
returns g c = λ plain ok.
    let took = g.W.Write.write_str_gives in
    subst (λ code. HasWritten took c.args.f.now (code_text code) c.write_bit-5.new.f) (c.bits-code.ensures tt) (
    let one = c.in_ok-write_hexadecimal.ensures plain refl in
    let two = has_written_append took _ _ _ _ _ one (c.in_ok-write_bit.ensures one.plain refl) in
    let three = has_written_append took _ _ _ _ _ two (c.in_ok-write_bit-2.ensures two.plain refl) in
    let four = has_written_append took _ _ _ _ _ three (c.in_ok-write_bit-3.ensures three.plain refl) in
    let five = has_written_append took _ _ _ _ _ four (c.in_ok-write_bit-4.ensures four.plain refl) in
    has_written_append took _ _ _ _ _ five (c.write_bit-5.ensures five.plain ok))
