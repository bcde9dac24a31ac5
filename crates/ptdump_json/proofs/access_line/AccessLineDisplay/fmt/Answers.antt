use Rattle.std.proofs.Common.{◌++◌, refl, subst}
use Rattle.std.proofs.Output.{has_written_append}
use Rattle.std.specs.Fmt.{HasWritten}
use Rattle.x86_64_access.specs.Accesses.{outcome_of}
use Rattle.ptdump_json.specs.Accesses.{controls_text, outcome_text}
use Rattle.ptdump_json.proofs.access_line.AccessLineDisplay.fmt.Goals as goal

pub returns-clause-writes : goal.returns-clause-writes
returns-clause-writes g c = λ plain ok.
    let took = g.W.Write.write_str_gives in
    let line = c.args.self.now in
    let one = c.in_ok-write_str.ensures.writes plain refl in
    let two = has_written_append took _ _ _ _ _ one (c.in_ok-write_end.ensures one.plain refl) in
    subst (λ name. HasWritten took c.args.f.now (name ++ outcome_text (outcome_of line.end)
    ++ controls_text line.controls line.source) c.write_controls.new.f)
    c.access_name.ensures (has_written_append took _ _ _ _ _ two (c.write_controls.ensures two.plain ok))
