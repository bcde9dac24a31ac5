use Rattle.ptdump.proofs.NumberTexts.{no_number_behind_zero, number_without_zero}
use Rattle.std.proofs.Common.{◌∙◌, sym}
use Rattle.ptdump.proofs.numbers.read_number.Goals as goal

pub returns-then-has_zero_in_front : goal.returns-then-has_zero_in_front
returns-then-has_zero_in_front c = no_number_behind_zero c.args.text.now (sym c.has_zero_in_front.ensures ∙ c.if-has_zero_in_front.true)

pub returns-else-has_zero_in_front : goal.returns-else-has_zero_in_front
returns-else-has_zero_in_front c =
    number_without_zero c.args.text.now c.parse_number.result c.parse_number.ensures (sym c.has_zero_in_front.ensures ∙ c.if-has_zero_in_front.false)
