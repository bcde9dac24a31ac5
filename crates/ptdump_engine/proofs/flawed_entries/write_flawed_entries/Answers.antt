use Rattle.std.proofs.Common.{◌∙◌, ◌+◌, ◌++◌, take, sym, ap}
use Rattle.std.specs.List.{filter_map}
use Rattle.x86_64_model.specs.Memory.{identity_places, words_of}
use Rattle.ptdump_check.specs.Findings.{entries_in, flaw_in, flawed_entries}
use Rattle.ptdump_check.proofs.Found.{flat_more}
use Rattle.ptdump_engine.specs.CheckReports.{said_of}
use Rattle.ptdump_engine.proofs.BothLines.{both_lines}
use Rattle.ptdump_engine.proofs.flawed_entries.write_flawed_entries.Goals as goal

pub loop-table-preserved : goal.loop-table-preserved
loop-table-preserved g c =
    let T = words_of c.args.memory.now identity_places in
    let i = c.loop-table.table-index in
    let table = c.table-item.result in
    both_lines g.O.LineOutput.Lines g.O.LineOutput.parts said_of c.args.output.now c.loop-table.output c.write_flawed_in.new.output
    (flawed_entries c.args.flaw T (take i c.args.tables.now)) (filter_map (flaw_in c.args.flaw) (entries_in T table)) (flawed_entries c.args.flaw T (take (i + 1) c.args.tables.now))
    (flat_more (λ t. filter_map (flaw_in c.args.flaw) (entries_in T t)) c.args.tables.now i table c.loop-table-test.true
    ∙ ap (λ t. flawed_entries c.args.flaw T (take i c.args.tables.now) ++ filter_map (flaw_in c.args.flaw) (entries_in T t)) (sym c.table-item.is))
    c.loop-table.invariant c.in_ok-write_flawed_in.ensures
