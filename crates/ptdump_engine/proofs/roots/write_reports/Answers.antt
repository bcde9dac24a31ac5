use Rattle.std.proofs.Common.{◌∙◌, ◌&&◌, refl, sym, ap, ap₂, subst}
use Rattle.std.specs.Io.KnownBytes.{Appends}
use Rattle.std.proofs.KnownBytes.{Appends-nil}
use Rattle.std.proofs.lemmas.List.Folds.{list_all_more}
use Rattle.x86_64_dump.specs.Dump.{words_of_dump}
use Rattle.x86_64_dump.specs.Opened.{opened}
use Rattle.ptdump_engine.specs.Program.{EndsByTotalsOf, ToldOfTablesOf, is_complete_for, report_below}
use Rattle.ptdump_engine.proofs.Turns.{appends_more, told_nothing, told_on, turn_all, turn_more}
use Rattle.ptdump_engine.proofs.roots.write_reports.Goals as goal

pub loop-first-init : goal.loop-first-init
loop-first-init g c = (c.requires.noted, told_nothing g.G.Progress.Told g.G.Progress.Ended c.args.progress.now, λ known. (refl, Appends-nil _, refl, λ after all. all, λ after all. all))

pub loop-first-preserved : goal.loop-first-preserved
loop-first-preserved g c = (
  c.in_ok-is_fulfilled.ensures.noted,
  told_on g.G.Progress.Told g.G.Progress.Ended c.args.progress.now c.loop-first.progress c.write_report_below.new.progress c.loop-first.invariant.1 c.write_report_below.ensures.counted,
  λ known.
      let T = words_of_dump (opened g.S.ByteSource.bytes c.args.dump.now) in
      let request = c.args.request.now in
      let ps = c.args.groups.now.processors.now in
      let xs = c.args.firsts.now in
      let i = c.loop-first.first-index in
      let x = c.first-item.result in
      let below = c.loop-first-test.true in
      let written_by = g.W.Destination.contents in
      let noted_by = g.E.Destination.contents in
      let now = c.loop-first in
      let new = c.write_report_below.new in
      let told_of = ToldOfTablesOf g.G.Progress.Told g.G.Progress.Ended T in
      let (name, written, complete, totals, told) = c.loop-first.invariant.2 known in (
        c.in_ok-is_fulfilled.ensures.name known ∙ name,
        appends_more (report_below request T ps) _ (written_by now.writer) (written_by new.writer) xs i x below written
            (subst (λ y. Appends (written_by now.writer) (written_by new.writer) (report_below request T ps y)) c.first-item.is (c.in_ok-is_fulfilled.ensures.text known)),
        ap₂ (λ b d. b && d) complete (c.in_ok-is_fulfilled.ensures.complete known ∙ ap (is_complete_for request T) c.first-item.is) ∙ sym (list_all_more (is_complete_for request T) xs i x below),
        turn_more (EndsByTotalsOf request.command T) _ (noted_by now.notes.writer.now) (noted_by new.notes.writer.now) xs i x below totals
            (subst (λ y. EndsByTotalsOf request.command T y (noted_by now.notes.writer.now) (noted_by new.notes.writer.now)) c.first-item.is (c.in_ok-is_fulfilled.ensures.totals known)),
        turn_more told_of _ now.progress new.progress xs i x below told
            (subst (λ y. told_of y now.progress new.progress) c.first-item.is (c.in_ok-is_fulfilled.ensures.told known)),
      ),
)

pub returns-clause-totals : goal.returns-clause-totals
returns-clause-totals g c = λ known.
    let (name, written, complete, totals, told) = c.loop-first.invariant.2 known in
    turn_all (EndsByTotalsOf c.args.request.now.command (words_of_dump (opened g.S.ByteSource.bytes c.args.dump.now))) _ _ c.args.firsts.now c.loop-first.first-index c.loop-first-test.false totals

pub returns-clause-told : goal.returns-clause-told
returns-clause-told g c = λ known.
    let (name, written, complete, totals, told) = c.loop-first.invariant.2 known in
    turn_all (ToldOfTablesOf g.G.Progress.Told g.G.Progress.Ended (words_of_dump (opened g.S.ByteSource.bytes c.args.dump.now))) _ _ c.args.firsts.now c.loop-first.first-index
    c.loop-first-test.false told

pub returns-in_err-is_fulfilled-clause-counted : goal.returns-in_err-is_fulfilled-clause-counted
returns-in_err-is_fulfilled-clause-counted g c =
    told_on g.G.Progress.Told g.G.Progress.Ended c.args.progress.now c.loop-first.progress c.write_report_below.new.progress c.loop-first.invariant.1 c.write_report_below.ensures.counted
