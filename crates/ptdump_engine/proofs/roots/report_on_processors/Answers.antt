use Rattle.std.proofs.Common.{◌≡◌, ◌∙◌, List, ap, subst}
use Rattle.std.proofs.lemmas.Result.{err_from_is_err_and}
use Rattle.std.specs.Io.KnownBytes.{Appends}
use Rattle.std.specs.List.{flat_map, list_all}
use Rattle.x86_64_dump.specs.Dump.{words_of_dump}
use Rattle.x86_64_dump.specs.Opened.{opened}
use Rattle.ptdump_engine.specs.Processors.{firsts_of, left_out_text}
use Rattle.ptdump_engine.specs.Program.{EndsByTotalsOf, ToldOfTablesOf, is_complete_for, report_below}
use Rattle.ptdump_engine.specs.Steps.{InTurn}
use Rattle.ptdump_engine.specs.declared.processors.Processor.{Processor}
use Rattle.ptdump_engine.proofs.Failing.{second_write}
use Rattle.ptdump_engine.proofs.Turns.{told_nothing}
use Rattle.ptdump_engine.proofs.Wholly.{written_at_once}
use Rattle.ptdump_engine.proofs.roots.report_on_processors.Goals as goal

pub returns-clause-written : goal.returns-clause-written
returns-clause-written g c = λ known.
    let T = words_of_dump (opened g.S.ByteSource.bytes c.args.dump.now) in
    let ps = c.args.processors.now in
    let same : c.in_ok-groups.groups.processors.now ≡ ps = c.in_ok-groups.ensures.processors in
    let firsts : c.deref.result.now ≡ firsts_of ps = c.deref.ensures.value ∙ c.in_ok-firsts.ensures ∙ ap firsts_of same in
    let contents = g.W.Destination.contents in
    record {
      text = subst (Appends (contents c.args.writer.now) (contents c.write_reports.new.writer)) (λ i. flat_map (report_below c.args.request.now T (same i)) (firsts i))
          (c.in_ok-is_complete.ensures.text known);
      complete = c.in_ok-is_complete.ensures.complete known ∙ ap (list_all (is_complete_for c.args.request.now T)) firsts;
    }

pub returns-clause-notes : goal.returns-clause-notes
returns-clause-notes g c = λ known.
    let T = words_of_dump (opened g.S.ByteSource.bytes c.args.dump.now) in
    let ps = c.args.processors.now in
    let firsts : c.deref.result.now ≡ firsts_of ps = c.deref.ensures.value ∙ c.in_ok-firsts.ensures ∙ ap firsts_of c.in_ok-groups.ensures.processors in
    let contents = g.E.Destination.contents in
    let told = c.write_left_out.new.notes in (
      c.in_ok-is_complete.ensures.name known ∙ c.in_ok-write_left_out.ensures.text.writer,
      contents told.writer.now,
      written_at_once contents c.args.notes.now told (left_out_text ps) c.requires.noted c.in_ok-write_left_out.ensures.all c.in_ok-write_left_out.ensures.text,
      subst (λ (fs : List Processor). InTurn (EndsByTotalsOf c.args.request.now.command T) fs (contents told.writer.now) (contents c.write_reports.new.notes.writer.now)) firsts (c.in_ok-is_complete.ensures.totals known),
    )

pub returns-clause-told : goal.returns-clause-told
returns-clause-told g c = λ known.
    let T = words_of_dump (opened g.S.ByteSource.bytes c.args.dump.now) in
    let firsts : c.deref.result.now ≡ firsts_of c.args.processors.now = c.deref.ensures.value ∙ c.in_ok-firsts.ensures ∙ ap firsts_of c.in_ok-groups.ensures.processors in
    subst (λ (fs : List Processor). InTurn (ToldOfTablesOf g.G.Progress.Told g.G.Progress.Ended T) fs c.args.progress.now c.write_reports.new.progress) firsts
    (c.in_ok-is_complete.ensures.told known)

pub returns-in_err-groups-clause-counted : goal.returns-in_err-groups-clause-counted
returns-in_err-groups-clause-counted g c = told_nothing g.G.Progress.Told g.G.Progress.Ended c.args.progress.now

pub returns-in_err-firsts-clause-counted : goal.returns-in_err-firsts-clause-counted
returns-in_err-firsts-clause-counted g c = told_nothing g.G.Progress.Told g.G.Progress.Ended c.args.progress.now

pub returns-in_err-write_left_out-clause-counted : goal.returns-in_err-write_left_out-clause-counted
returns-in_err-write_left_out-clause-counted g c = told_nothing g.G.Progress.Told g.G.Progress.Ended c.args.progress.now

pub returns-in_err-write_left_out-clause-errors : goal.returns-in_err-write_left_out-clause-errors
returns-in_err-write_left_out-clause-errors g c =
    let e = err_from_is_err_and c.from_residual-in_err-write_left_out.result c.from_residual-in_err-write_left_out.ensures.1 in
    rw e.1 (second_write g.S.ByteSource.may_fail g.W.Destination.may_refuse g.E.Destination.may_refuse e.0 e.2.0)
