use Rattle.std.proofs.Common.{◌≡◌, ◌∙◌, ◌++◌, List, String, IfSome, sym, ap, subst}
use Rattle.std.proofs.lemmas.Result.{err_from_is_err_and}
use Rattle.std.specs.FinMap.{len}
use Rattle.std.specs.Io.KnownBytes.{Appends}
use Rattle.x86_64_dump.specs.Dump.{words_of_dump}
use Rattle.x86_64_dump.specs.Opened.{opened}
use Rattle.x86_64_dump.specs.Loaded.{loaded_words, IsTableCount}
use Rattle.x86_64_model.specs.Mappings.{Mapping}
use Rattle.std.specs.declared.alloc.Global.{Global}
use Rattle.ptdump_engine.specs.Output.{Puts, put_in}
use Rattle.ptdump_engine.specs.Program.{ToldInTurn}
use Rattle.ptdump_engine.specs.Reserved.{reserved_note}
use Rattle.ptdump_engine.specs.Totals.{IsMappedMemory, totals_text}
use Rattle.ptdump_json.specs.Walks.{line}
use Rattle.ptdump_engine.specs.declared.output.Output.{Output}
use Rattle.ptdump_check.proofs.SameTables.{same_tables}
use Rattle.ptdump_engine.proofs.Failing.{second_write}
use Rattle.ptdump_engine.proofs.SameLines.{same_note}
use Rattle.ptdump_engine.proofs.Wholly.{puts_both, same_report, same_completeness, written_rest}
use Rattle.ptdump_engine.proofs.Turns.{told_once}
use Rattle.ptdump_engine.proofs.engine.report.Given.{Over}
use Rattle.ptdump_engine.proofs.engine.report.Goals as goal
use Rattle.ptdump_engine.proofs.engine.report.Goals.{After-end}

pub returns-clause-written : goal.returns-clause-written
returns-clause-written g c = λ known.
    let L = g.L.LevelCount.LEVELS in
    let T = loaded_words c.in_ok-tables.tables in
    let W = words_of_dump (opened g.S.ByteSource.bytes c.args.dump.now) in
    let contents = g.W.Destination.contents in
    record {
      text = subst (λ text. IfSome text (Appends (contents c.args.writer.now) (contents c.write_whole.new.writer)))
          (same_report c.args.request.now L T W c.args.root (c.in_ok-tables.ensures.mappings known) (c.in_ok-tables.ensures.same known)) (c.in_ok-is_complete.ensures.text known);
      complete = subst (λ complete. c.in_ok-is_complete.is_complete ≡ complete)
          (same_completeness c.args.request.now.command L T W c.args.root (c.in_ok-tables.ensures.mappings known) (c.in_ok-tables.ensures.same known) (c.in_ok-tables.ensures.walks known))
          (c.in_ok-is_complete.ensures.complete known);
    }

pub returns-clause-totals : goal.returns-clause-totals
returns-clause-totals g c = λ known not_image.
    let L = g.L.LevelCount.LEVELS in
    let T = loaded_words c.in_ok-tables.tables in
    let W = words_of_dump (opened g.S.ByteSource.bytes c.args.dump.now) in
    let root = c.args.root in
    let command = c.args.request.now.command in
    let contents = g.E.Destination.contents in
    let end = c.write_totals.new.notes in
    let same = c.in_ok-is_complete.ensures.notes not_image in
    let below = c.in_ok-tables.ensures.same known in
    let all = (c.in_ok-tables.ensures.tables known).frames ∙ sym (same_tables T W L root below) in
    let (totals, tables, mapped, last) = c.in_ok-write_totals.ensures.text in
    let Mapped : List Mapping → Type 0 = λ ms. IsMappedMemory ms totals in
    let noted : Puts contents c.write_whole.new.notes c.write_reserved.new.notes (reserved_note command L W root) =
    subst (Puts contents c.write_whole.new.notes c.write_reserved.new.notes) (same_note T W command L root below) (c.in_ok-write_reserved.ensures all) in
    let puts = puts_both contents c.write_whole.new.notes c.write_reserved.new.notes end _ _ noted last in
    let text = reserved_note command L W root ++ line (totals_text totals) in
    let before : Output g.row.E.Denot (String Global) → Type 0 = λ notes. Appends (put_in contents notes) (contents end.writer.now) text in (
      puts.writer ∙ ap (λ (notes : Output g.row.E.Denot (String Global)). notes.writer.ghost_name) same,
      (
        totals,
        record {
          tables = subst (IsTableCount L W root) (sym tables) (c.in_ok-tables.ensures.count known);
          mapped = subst Mapped (c.in_ok-tables.ensures.mappings known) mapped;
        },
        subst before same (written_rest contents c.write_whole.new.notes end text c.in_ok-write_totals.ensures.all puts),
      ),
    )

pub returns-clause-told : goal.returns-clause-told
returns-clause-told g c = λ known. (len c.in_ok-tables.tables.memory, c.read_tables-tables.new.progress, c.in_ok-tables.ensures.count known, c.in_ok-tables.ensures.told, c.end.ensures)

pub write_whole-requires-clause-tables : goal.write_whole-requires-clause-tables
write_whole-requires-clause-tables g c = λ known.
    let L = g.L.LevelCount.LEVELS in
    let T = loaded_words c.in_ok-tables.tables in
    let W = words_of_dump (opened g.S.ByteSource.bytes c.args.dump.now) in
    (c.in_ok-tables.ensures.tables known).frames ∙ sym (same_tables T W L c.args.root (c.in_ok-tables.ensures.same known))

-- the tables were told, and the end
counted : (g : Over) (c : After-end g) → ToldInTurn g.G.Progress.Told g.G.Progress.Ended c.args.progress.now c.end.new.self
counted g c = told_once g.G.Progress.Told g.G.Progress.Ended c.args.progress.now c.read_tables-tables.new.progress c.end.new.self c.read_tables-tables.ensures.counted c.end.ensures

pub returns-in_err-tables-clause-counted : goal.returns-in_err-tables-clause-counted
returns-in_err-tables-clause-counted g c = counted g (goal.at.returns-in_err-tables-clause-counted g c).After-end

pub returns-in_err-summaries-clause-counted : goal.returns-in_err-summaries-clause-counted
returns-in_err-summaries-clause-counted g c = counted g (goal.at.returns-in_err-summaries-clause-counted g c).After-end

pub returns-in_err-is_complete-clause-counted : goal.returns-in_err-is_complete-clause-counted
returns-in_err-is_complete-clause-counted g c = counted g (goal.at.returns-in_err-is_complete-clause-counted g c).After-end

pub returns-in_err-write_reserved-clause-counted : goal.returns-in_err-write_reserved-clause-counted
returns-in_err-write_reserved-clause-counted g c = counted g (goal.at.returns-in_err-write_reserved-clause-counted g c).After-end

pub returns-in_err-write_totals-clause-counted : goal.returns-in_err-write_totals-clause-counted
returns-in_err-write_totals-clause-counted g c = counted g (goal.at.returns-in_err-write_totals-clause-counted g c).After-end

pub returns-clause-counted : goal.returns-clause-counted
returns-clause-counted g c = counted g (goal.at.returns-clause-counted g c).After-end

pub returns-in_err-write_reserved-clause-errors : goal.returns-in_err-write_reserved-clause-errors
returns-in_err-write_reserved-clause-errors g c =
    let e = err_from_is_err_and c.from_residual-in_err-write_reserved.result c.from_residual-in_err-write_reserved.ensures.1 in
    rw e.1 (second_write g.S.ByteSource.may_fail g.W.Destination.may_refuse g.E.Destination.may_refuse e.0 e.2.0)

pub returns-in_err-write_totals-clause-errors : goal.returns-in_err-write_totals-clause-errors
returns-in_err-write_totals-clause-errors g c =
    let e = err_from_is_err_and c.from_residual-in_err-write_totals.result c.from_residual-in_err-write_totals.ensures.1 in
    rw e.1 (second_write g.S.ByteSource.may_fail g.W.Destination.may_refuse g.E.Destination.may_refuse e.0 e.2.0)
