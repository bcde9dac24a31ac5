use Rattle.std.proofs.Common.{◌∙◌, refl, subst}
use Rattle.std.proofs.Output.{has_written_append}
use Rattle.std.specs.Fmt.{HasWritten}
use Rattle.ptdump_json.specs.Walks.{missing_text}
use Rattle.ptdump_json.proofs.word_read.MissingTableDisplay.fmt.Goals as goal

pub returns-clause-writes : goal.returns-clause-writes
returns-clause-writes g c = λ plain ok.
    let took = g.W.Write.write_str_gives in
    let one = c.in_ok-write_str.ensures.writes plain refl in
    let two = has_written_append took _ _ _ _ _ one (c.in_ok-write_hexadecimal.ensures one.plain refl) in
    subst (λ frame. HasWritten took c.args.f.now (missing_text frame) c.write_str-2.new.self) (c.as_u64.ensures.value ∙ c.start_address.ensures.value)
    (has_written_append took _ _ _ _ _ two (c.write_str-2.ensures.writes two.plain ok))
