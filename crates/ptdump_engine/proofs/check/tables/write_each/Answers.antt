use Rattle.std.proofs.Common.{◌∙◌, ◌+◌, ◌++◌, [], ◌∷◌, take, sym, ap}
use Rattle.std.proofs.lemmas.List.{take_more}
use Rattle.ptdump_engine.specs.CheckReports.{said_of}
use Rattle.ptdump_engine.proofs.BothLines.{both_lines}
use Rattle.ptdump_engine.proofs.check.tables.write_each.Goals as goal

pub loop-finding-preserved : goal.loop-finding-preserved
loop-finding-preserved g c =
    let findings = c.args.findings.now in
    let i = c.loop-finding.finding-index in
    let finding = c.finding-item.result in
    both_lines g.O.LineOutput.Lines g.O.LineOutput.parts said_of c.args.output.now c.loop-finding.output c.write_line.new.self
    (take i findings) (finding ∷ []) (take (i + 1) findings)
    (take_more findings i finding c.loop-finding-test.true ∙ ap (λ f. take i findings ++ f ∷ []) (sym c.finding-item.is))
    c.loop-finding.invariant c.in_ok-write_line.ensures
