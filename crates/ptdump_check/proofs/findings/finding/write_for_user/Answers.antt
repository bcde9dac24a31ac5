use Rattle.std.proofs.Common.{refl}
use Rattle.std.proofs.Output.{has_written_append}
use Rattle.ptdump_check.proofs.findings.finding.write_for_user.Goals as goal

pub returns : goal.returns
returns g c = λ plain ok.
    let one = c.in_ok-write_str.ensures.writes plain refl in
    has_written_append g.W.Write.write_str_gives _ _ _ _ _ one (c.write_hexadecimal.ensures one.plain ok)
