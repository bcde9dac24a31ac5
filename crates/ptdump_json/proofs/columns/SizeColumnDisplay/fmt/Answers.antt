use Rattle.std.proofs.Common.{◌≡◌, ◌∙◌, ◌+◌, ◌/◌, ◌++◌, List, ap, ap₂, decimal, subst, ℕ}
use Rattle.std.specs.Fmt.{WritesOnOk, styled_decimal}
use Rattle.text.specs.Sizes.{size_text}
use Rattle.ptdump_json.specs.Columns.{at_right}
use Rattle.ptdump_json.proofs.Padded.{size_right}
use Rattle.ptdump_json.proofs.columns.SizeColumnDisplay.fmt.Goals as goal

pub returns-clause-writes : goal.returns-clause-writes
returns-clause-writes g c =
    let column = c.args.self.now in
    let unit = c.exact_unit-unit.result in
    let count = column.bytes / unit.bytes in
    let name = unit.name.now in
    let text : decimal count ++ name ≡ size_text column.bytes =
    ap₂ (λ (bytes : ℕ) name. decimal (column.bytes / bytes) ++ name) c.exact_unit-unit.ensures.bytes
    c.exact_unit-unit.ensures.name in
    let shown : styled_decimal c.laid_out.result count ++ name ≡ at_right (column.digits + 3) (size_text column.bytes) =
    ap (λ s. styled_decimal s count ++ name) c.laid_out.ensures
    ∙ size_right column.digits count name c.exact_unit-unit.ensures.length ∙ ap (at_right (column.digits + 3)) text in
    subst (λ (text : List ℕ). WritesOnOk g.W.Write.write_str_gives c.args.f.now c.write.result text c.write.new.self)
    shown c.write.ensures.writes
