use Rattle.std.proofs.Common.{◌∙◌, ◌+◌, ◌++◌, [], take, sym, ap}
use Rattle.std.specs.List.{cons_option, filter_map}
use Rattle.x86_64_model.specs.Memory.{identity_places, words_of}
use Rattle.ptdump_check.specs.Findings.{missing}
use Rattle.ptdump_check.proofs.Found.{filter_more}
use Rattle.ptdump_engine.specs.CheckReports.{said_of}
use Rattle.ptdump_engine.proofs.BothLines.{both_lines}
use Rattle.ptdump_engine.proofs.check.tables.write_missing.Goals as goal

pub loop-name-preserved : goal.loop-name-preserved
loop-name-preserved g c =
    let T = words_of c.args.memory.now identity_places in
    let i = c.loop-name.name-index in
    let name = c.name-item.result in
    both_lines g.O.LineOutput.Lines g.O.LineOutput.parts said_of c.args.output.now c.loop-name.output c.write_finding.new.output
    (filter_map (missing T) (take i c.args.names.now)) (cons_option c.of_name.result []) (filter_map (missing T) (take (i + 1) c.args.names.now))
    (filter_more (missing T) c.args.names.now i name c.loop-name-test.true
    ∙ ap (λ o. filter_map (missing T) (take i c.args.names.now) ++ cons_option o []) (ap (missing T) (sym c.name-item.is) ∙ sym c.of_name.ensures))
    c.loop-name.invariant c.in_ok-write_finding.ensures
