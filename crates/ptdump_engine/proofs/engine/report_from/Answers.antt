use Rattle.std.proofs.Common.{◌≡◌, OnOk, false, sym, subst}
use Rattle.x86_64_dump.specs.Dump.{words_of_dump}
use Rattle.x86_64_dump.specs.Opened.{opened}
use Rattle.ptdump_engine.specs.Output.{put_in}
use Rattle.ptdump_engine.specs.Program.{EndsByTotals, ToldOfTables, is_image, level_count}
use Rattle.ptdump_engine.proofs.engine.report_from.Goals as goal

pub returns-in-Four-clause-told : goal.returns-in-Four-clause-told
returns-in-Four-clause-told g c = λ known.
    subst (λ levels. OnOk c.report.result (ToldOfTables g.G.Progress.Told g.G.Progress.Ended (level_count levels) (words_of_dump (opened g.S.ByteSource.bytes c.args.dump.now)) c.args.start.now.root
    c.args.progress.now c.report.new.progress)) (sym c.in-Four.is) (c.report.ensures.told known)

pub returns-in-Five-clause-told : goal.returns-in-Five-clause-told
returns-in-Five-clause-told g c = λ known.
    subst (λ levels. OnOk c.report-in-Five.result (ToldOfTables g.G.Progress.Told g.G.Progress.Ended (level_count levels) (words_of_dump (opened g.S.ByteSource.bytes c.args.dump.now)) c.args.start.now.root
    c.args.progress.now c.report-in-Five.new.progress)) (sym c.in-Five.is) (c.report-in-Five.ensures.told known)

pub returns-in-Four-clause-totals : goal.returns-in-Four-clause-totals
returns-in-Four-clause-totals g c = λ known.
    let command = c.args.request.now.command in
    let contents = g.E.Destination.contents in
    subst (λ levels. OnOk c.report.result (is_image command ≡ false → (c.report.new.notes.writer.ghost_name ≡ c.args.notes.now.writer.ghost_name)
    × EndsByTotals command (level_count levels) (words_of_dump (opened g.S.ByteSource.bytes c.args.dump.now)) c.args.start.now.root (put_in contents c.args.notes.now)
    (contents c.report.new.notes.writer.now))) (sym c.in-Four.is) (c.report.ensures.totals known)

pub returns-in-Five-clause-totals : goal.returns-in-Five-clause-totals
returns-in-Five-clause-totals g c = λ known.
    let command = c.args.request.now.command in
    let contents = g.E.Destination.contents in
    subst (λ levels. OnOk c.report-in-Five.result (is_image command ≡ false → (c.report-in-Five.new.notes.writer.ghost_name ≡ c.args.notes.now.writer.ghost_name)
    × EndsByTotals command (level_count levels) (words_of_dump (opened g.S.ByteSource.bytes c.args.dump.now)) c.args.start.now.root (put_in contents c.args.notes.now)
    (contents c.report-in-Five.new.notes.writer.now))) (sym c.in-Five.is) (c.report-in-Five.ensures.totals known)
