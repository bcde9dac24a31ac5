use Rattle.std.proofs.Common.{refl}
use Rattle.std.proofs.Output.{has_written_append}
use Rattle.ptdump_json.specs.InfoTexts.{memory_text}
use Rattle.ptdump_json.proofs.items.MemoryRangeDisplay.fmt.Goals as goal

pub returns-clause-writes : goal.returns-clause-writes
unfolding memory_text
returns-clause-writes g c = λ plain ok.
    let took = g.W.Write.write_str_gives in
    let one = c.in_ok-write_str.ensures.writes plain refl in
    let two = has_written_append took _ _ _ _ _ one (c.in_ok-write_hexadecimal.ensures one.plain refl) in
    let three = has_written_append took _ _ _ _ _ two (c.in_ok-write_str-2.ensures.writes two.plain refl) in
    let four = has_written_append took _ _ _ _ _ three (c.in_ok-write_hexadecimal-2.ensures three.plain refl) in
    let five = has_written_append took _ _ _ _ _ four (c.in_ok-write_str-3.ensures.writes four.plain refl) in
    has_written_append took _ _ _ _ _ five (c.write_size.ensures five.plain ok)
