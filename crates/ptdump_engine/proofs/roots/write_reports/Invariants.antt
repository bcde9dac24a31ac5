use Rattle.std.proofs.Common.{◌≡◌, ℕ, List, [], Option, drop, take}
use Rattle.std.specs.Io.KnownBytes.{Appends}
use Rattle.std.specs.List.{flat_map, list_all}
use Rattle.std.specs.String.{string_bytes}
use Rattle.x86_64_dump.specs.Dump.{words_of_dump}
use Rattle.x86_64_dump.specs.Opened.{opened}
use Rattle.ptdump_engine.specs.Program.{EndsByTotalsOf, ToldInTurn, ToldOfTablesOf, is_complete_for, report_below}
use Rattle.ptdump_engine.specs.Steps.{InTurn}
use Rattle.ptdump_engine.proofs.roots.write_reports.Given as goal

-- the reports so far are written, with their totals, and the observer was told of their tables
abbrev pub invariant-loop-first : goal.invariant-loop-first
invariant-loop-first g l =
    let T = words_of_dump (opened g.S.ByteSource.bytes l.dump) in
    let done = take l.first-index l.firsts in
    let left = drop l.first-index l.firsts in
    let errors = g.E.Destination.contents in
    let told = ToldOfTablesOf g.G.Progress.Told g.G.Progress.Ended T in
    (string_bytes l.notes.text ≡ []) × ToldInTurn g.G.Progress.Told g.G.Progress.Ended l.fn.progress l.progress
    × (g.S.ByteSource.IsKnown → (l.notes.writer.ghost_name ≡ l.fn.notes.writer.ghost_name)
    × Appends (g.W.Destination.contents l.fn.writer) (g.W.Destination.contents l.writer) (flat_map (report_below l.request T l.groups.processors.now) done)
    × (l.is_complete ≡ list_all (is_complete_for l.request T) done)
    × ((after : Option (List ℕ)) → InTurn (EndsByTotalsOf l.request.command T) left (errors l.notes.writer.now) after → InTurn (EndsByTotalsOf l.request.command T) l.firsts (errors l.fn.notes.writer.now) after)
    × ((after : g.row.G.Denot) → InTurn told left l.progress after → InTurn told l.firsts l.fn.progress after))
