use Rattle.std.proofs.Common.{◌≡◌, ◌∙◌, ◌+◌, ◌++◌, List, Option, Some, codes, false, ap, subst, ℕ}
use Rattle.std.specs.Fmt.{◌++?◌, DisplaysOnOk, digits, digits_output, styled_digits_output}
use Rattle.ptdump_json.specs.Columns.{at_left}
use Rattle.ptdump_json.proofs.Padded.{number_left}
use Rattle.ptdump_json.proofs.columns.NumberColumnDisplay.fmt.Goals as goal

pub returns-clause-writes : goal.returns-clause-writes
returns-clause-writes g c =
    let column = c.args.self.now in
    let number = c.in_radix.result in
    let shown : (Some (codes "0x") ++? styled_digits_output number c.laid_out.result) ≡ Some (at_left (column.digits + 2) (codes "0x" ++ digits 16 false column.number)) =
    ap (λ s. Some (codes "0x") ++? styled_digits_output number s) c.laid_out.ensures ∙ number_left column.digits (digits 16 false column.number) (digits_output number) c.in_radix.ensures in
    subst (λ (text : Option (List ℕ)). DisplaysOnOk g.W.Write.write_str_gives c.args.f.now c.write.result text c.write.new.self) shown c.write.ensures.writes
