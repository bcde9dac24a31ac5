use Rattle.ptdump_json.proofs.Results.{on_ok}
use Rattle.ptdump_engine.proofs.check.write_lines.Goals as goal

pub returns : goal.returns
returns g c =
    let parts = g.O.LineOutput.parts in
    let begin = c.args.output.now in
    let written = c.write_flawed.new.output in
    let reached = c.write_flawed-2.new.output in
    let listed = c.write_table_findings.new.output in
    on_ok c.write_aliases.result (λ aliases. parts begin listed c.write_aliases.new.output _ _
    (parts begin reached listed _ _ (parts begin written reached _ _ c.in_ok-write_flawed.ensures c.in_ok-write_flawed-2.ensures) c.in_ok-write_table_findings.ensures)
    aliases) c.write_aliases.ensures
