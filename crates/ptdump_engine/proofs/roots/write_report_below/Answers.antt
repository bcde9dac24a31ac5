use Rattle.std.proofs.Common.{[], subst}
use Rattle.std.proofs.KnownBytes.{Appends-trans}
use Rattle.std.specs.Io.KnownBytes.{Appends}
use Rattle.x86_64_dump.specs.Dump.{words_of_dump}
use Rattle.x86_64_dump.specs.Opened.{opened}
use Rattle.ptdump_engine.specs.Program.{EndsByTotals, level_count, report_of}
use Rattle.ptdump_engine.proofs.OfProcessors.{has_report, is_tested, no_image, some_or}
use Rattle.ptdump_engine.proofs.Wholly.{put_all}
use Rattle.ptdump_engine.proofs.roots.write_report_below.Goals as goal

pub report_from-requires : goal.report_from-requires
report_from-requires g c = is_tested c.args.request.now c.requires.all

pub returns-clause-text : goal.returns-clause-text
returns-clause-text g c = λ known.
    let request = c.args.request.now in
    let start = c.args.first.now.start in
    let T = words_of_dump (opened g.S.ByteSource.bytes c.args.dump.now) in
    let L = level_count start.levels in
    let contents = g.W.Destination.contents in
    Appends-trans _ _ _ _ _ c.in_ok-write_heading.ensures
    (some_or (report_of request L T start.root) (Appends (contents c.write_heading.new.writer) (contents c.report_from.new.writer)) [] (c.in_ok-outcome.ensures.written known).text
    (has_report request L T start.root c.requires.all))

pub returns-clause-complete : goal.returns-clause-complete
returns-clause-complete g c = λ known. (c.in_ok-outcome.ensures.written known).complete

pub returns-clause-name : goal.returns-clause-name
returns-clause-name g c = λ known. (c.in_ok-outcome.ensures.totals known (no_image c.args.request.now c.requires.all)).0

pub returns-clause-totals : goal.returns-clause-totals
returns-clause-totals g c = λ known.
    let start = c.args.first.now.start in
    let T = words_of_dump (opened g.S.ByteSource.bytes c.args.dump.now) in
    let contents = g.E.Destination.contents in
    subst (λ before. EndsByTotals c.args.request.now.command (level_count start.levels) T start.root before (contents c.report_from.new.notes.writer.now)) (put_all contents c.args.notes.now c.requires.noted)
    (c.in_ok-outcome.ensures.totals known (no_image c.args.request.now c.requires.all)).1
