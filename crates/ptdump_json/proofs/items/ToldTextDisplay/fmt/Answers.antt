use Rattle.std.proofs.Common.{refl}
use Rattle.std.proofs.Output.{has_written_append}
use Rattle.ptdump_json.specs.InfoTexts.{text_told}
use Rattle.ptdump_json.proofs.items.ToldTextDisplay.fmt.Goals as goal

pub returns-clause-writes : goal.returns-clause-writes
unfolding text_told
returns-clause-writes g c = λ plain ok.
    let took = g.W.Write.write_str_gives in
    let one = c.in_ok-write_text_place.ensures plain refl in
    let two = has_written_append took _ _ _ _ _ one (c.in_ok-write.ensures.writes one.plain refl) in
    has_written_append took _ _ _ _ _ two (c.write_mask.ensures two.plain ok)
