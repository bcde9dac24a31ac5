use Rattle.std.proofs.Common.{refl, subst, sym}
use Rattle.std.proofs.Output.{has_written_append}
use Rattle.std.specs.Fmt.{HasWritten}
use Rattle.ptdump_json.specs.InfoTexts.{processor_text}
use Rattle.ptdump_json.proofs.items.ProcessorDisplay.fmt.Goals as goal

pub returns-in-Some-clause-writes : goal.returns-in-Some-clause-writes
returns-in-Some-clause-writes g c = λ plain ok.
    let took = g.W.Write.write_str_gives in
    let one = c.in_ok-write.ensures.writes plain refl in
    subst (λ registers. HasWritten took c.args.f.now (processor_text c.args.self.now.cpu registers) c.write-in-Some.new.self) (sym c.in-Some.is)
    (has_written_append took _ _ _ _ _ one (c.write-in-Some.ensures.writes one.plain ok))

pub returns-in-None-clause-writes : goal.returns-in-None-clause-writes
returns-in-None-clause-writes g c = λ plain ok.
    let took = g.W.Write.write_str_gives in
    let one = c.in_ok-write.ensures.writes plain refl in
    subst (λ registers. HasWritten took c.args.f.now (processor_text c.args.self.now.cpu registers) c.write_str.new.self) (sym c.in-None.is)
    (has_written_append took _ _ _ _ _ one (c.write_str.ensures.writes one.plain ok))
