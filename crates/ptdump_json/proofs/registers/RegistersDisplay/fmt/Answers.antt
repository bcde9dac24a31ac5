use Rattle.std.proofs.Common.{◌++◌, codes, refl, subst}
use Rattle.std.proofs.Output.{has_written_append}
use Rattle.std.specs.Fmt.{HasWritten}
use Rattle.ptdump_json.specs.InfoTexts.{paging_text, registers_text, values_text}
use Rattle.ptdump_json.proofs.registers.RegistersDisplay.fmt.Goals as goal

pub returns-clause-writes : goal.returns-clause-writes
unfolding registers_text
returns-clause-writes g c = λ plain ok.
    let took = g.W.Write.write_str_gives in
    let registers = c.args.self.now in
    let one = c.in_ok-write_values.ensures plain refl in
    let two = has_written_append took _ _ _ _ _ one (c.in_ok-write_str.ensures.writes one.plain refl) in
    subst (λ mode. HasWritten took c.args.f.now (values_text registers ++ codes ", " ++ paging_text registers.cr4 mode) c.write_paging.new.f)
    c.of.ensures (has_written_append took _ _ _ _ _ two (c.write_paging.ensures two.plain ok))
