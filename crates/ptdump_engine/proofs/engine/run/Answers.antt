use Rattle.std.proofs.Common.{rules, ◌≡◌, ◌∙◌, ◌||◌, ◌++◌, ◌⊎◌, IfOk, IfErr, OnOk, true, false, inl, inr, refl, sym, ap, subst, Result, Ok, Err, unwrap_or}
use Rattle.std.proofs.KnownBytes.{Appends-trans}
use Rattle.std.proofs.lemmas.Result.{err_from_is_err_and}
use Rattle.x86_64_dump.specs.Dump.{words_of_dump}
use Rattle.x86_64_dump.specs.Opened.{opened}
use Rattle.ptdump_engine.specs.Failure.{failure_of}
use Rattle.ptdump_engine.specs.NotedControls.{command_by, registers_for}
use Rattle.ptdump_engine.specs.Resolved.{resolved}
use Rattle.ptdump_engine.specs.NotedLevels.{noted_levels_text}
use Rattle.ptdump_engine.specs.Program.{EndsByTotals, DumpedMachine, StderrIs, NotesAs, NotesOnTables, ReportsOnWords, ReportsAll, RunsAs, ToldAs, ToldOfTablesOf, is_image, is_info, is_of_processors, level_count, opening_text, source_text}
use Rattle.ptdump_engine.specs.Processors.{firsts_of}
use Rattle.ptdump_engine.specs.Steps.{InTurn, of_dump}
use Rattle.std.specs.Io.KnownBytes.{Appends}
use Rattle.ptdump_engine.specs.Output.{put_in}
use Rattle.ptdump_engine.specs.private.Roots.{AreNoted}
use Rattle.ptdump_engine.specs.declared.failure.Failure.{Failure}
use Rattle.ptdump_engine.proofs.Failing.{forced_found, second_write}
use Rattle.ptdump_engine.proofs.Resolved.{same_ends, same_image}
use Rattle.ptdump_engine.proofs.Turns.{told_nothing}
use Rattle.ptdump_json.proofs.Results.{if_err, on_ok}
use Rattle.ptdump_engine.proofs.Wholly.{forced_run, no_processors, no_start, opens, put_first, puts_both, runs_by, runs_on_all, shows, tells_of, unopened, written_at_once}
use Rattle.ptdump_engine.proofs.engine.run.Goals as goal

pub returns-in_err-dump-clause-run : goal.returns-in_err-dump-clause-run
returns-in_err-dump-clause-run g c = λ known.
    let fails = g.S.ByteSource.may_fail in
    let is : c.from_residual.result ≡ Err (failure_of c.in_err-dump.field-0.0) = search rules in
    rw is (unopened (is_info c.args.request.command) (is_of_processors c.args.request) fails (g.W.Destination.may_refuse || g.E.Destination.may_refuse) c.args.request (g.S.ByteSource.bytes c.args.source)
    (g.W.Destination.contents c.args.writer.now) c.in_err-dump.field-0.0 (c.in_err-dump.ensures known))

-- ---- a command that is about the dump alone

pub returns-then-is_info-clause-run : goal.returns-then-is_info-clause-run
returns-then-is_info-clause-run g c = λ known.
    let request = c.args.request in
    let file = g.S.ByteSource.bytes c.args.source in
    let contents = g.W.Destination.contents in
    let fails = g.S.ByteSource.may_fail in
    let a = g.W.Destination.may_refuse in
    let b = g.E.Destination.may_refuse in
    let is : is_info request.command ≡ true = sym c.is_info.ensures ∙ c.if-is_info.true in
    subst (λ info. RunsAs info (is_of_processors request) fails (a || b) request file (contents c.args.writer.now) (contents c.write_info.new.writer) c.write_info.result) (sym is)
    (tells_of fails a b request file (contents c.args.writer.now) (contents c.write_info.new.writer) (opened g.S.ByteSource.bytes c.in_ok-dump.dump) c.write_info.result
    (ap of_dump (c.in_ok-dump.ensures known)) (c.write_info.ensures.written known) c.write_info.ensures.complete (c.write_info.ensures.errors known))

pub returns-then-is_info-clause-notes : goal.returns-then-is_info-clause-notes
returns-then-is_info-clause-notes g c = λ known.
    let request = c.args.request in
    let file = g.S.ByteSource.bytes c.args.source in
    let dump = opened g.S.ByteSource.bytes c.in_ok-dump.dump in
    let contents = g.E.Destination.contents in
    let is : is_info request.command ≡ true = sym c.is_info.ensures ∙ c.if-is_info.true in
    let ended = c.write_opening.new.notes in
    let told = written_at_once contents c.new-notes.result ended (opening_text dump) c.new-notes.ensures.empty (c.in_ok-write_opening.ensures.all c.new-notes.ensures.empty) (c.in_ok-write_opening.ensures.text known) in
    let begun : Appends (contents c.args.errors.now) (contents ended.writer.now) (opening_text dump) =
    subst (λ e. Appends (contents e) (contents ended.writer.now) (opening_text dump)) c.new-notes.ensures.now told in
    let same = (c.in_ok-write_opening.ensures.text known).writer in
    let noted : StderrIs request file (contents c.args.errors.now) (contents ended.writer.now) =
    subst (λ info. NotesAs info (is_of_processors request) request file (contents c.args.errors.now) (contents ended.writer.now)) (sym is) (dump, ap of_dump (c.in_ok-dump.ensures known), begun) in
    search (rules, noted)

pub returns-then-is_info-clause-told : goal.returns-then-is_info-clause-told
returns-then-is_info-clause-told g c = λ known.
    let request = c.args.request in
    let is : is_info request.command ≡ true = sym c.is_info.ensures ∙ c.if-is_info.true in
    subst (λ info. OnOk c.write_info.result (ToldAs info (is_of_processors request) g.G.Progress.Told g.G.Progress.Ended request (g.S.ByteSource.bytes c.args.source) c.args.progress.now c.args.progress.now)) (sym is)
    (search rules)

-- ---- a command on the tables of all processors

pub returns-in_err-processors-clause-run : goal.returns-in_err-processors-clause-run
returns-in_err-processors-clause-run g c = λ known.
    let request = c.args.request in
    let file = g.S.ByteSource.bytes c.args.source in
    let fails = g.S.ByteSource.may_fail in
    let may = g.W.Destination.may_refuse || g.E.Destination.may_refuse in
    let contents = g.W.Destination.contents in
    let not : is_info request.command ≡ false = sym c.is_info.ensures ∙ c.if-is_info.false in
    let all : is_of_processors request ≡ true = sym c.is_of_processors.ensures ∙ c.if-is_of_processors.true in
    let is : c.from_residual-in_err-processors.result ≡ Err c.in_err-processors.field-0.0 = search rules in
    subst (λ info. RunsAs info (is_of_processors request) fails may request file (contents c.args.writer.now) (contents c.args.writer.now) c.from_residual-in_err-processors.result) (sym not)
    (subst (λ all. RunsAs false all fails may request file (contents c.args.writer.now) (contents c.args.writer.now) c.from_residual-in_err-processors.result) (sym all)
    (rw is (
      no_processors fails may request file (opened g.S.ByteSource.bytes c.in_ok-dump.dump) c.in_err-processors.field-0.0 (c.in_ok-dump.ensures known) (c.in_err-processors.ensures known),
      inr refl,
    )))

pub returns-then-is_of_processors-clause-run : goal.returns-then-is_of_processors-clause-run
returns-then-is_of_processors-clause-run g c = λ known.
    let request = c.args.request in
    let file = g.S.ByteSource.bytes c.args.source in
    let fails = g.S.ByteSource.may_fail in
    let may = g.W.Destination.may_refuse || g.E.Destination.may_refuse in
    let contents = g.W.Destination.contents in
    let m : DumpedMachine = record { dump = opened g.S.ByteSource.bytes c.in_ok-dump.dump; processors = c.in_ok-processors.processors.items } in
    let not : is_info request.command ≡ false = sym c.is_info.ensures ∙ c.if-is_info.false in
    let all : is_of_processors request ≡ true = sym c.is_of_processors.ensures ∙ c.if-is_of_processors.true in
    subst (λ info. RunsAs info (is_of_processors request) fails may request file (contents c.args.writer.now) (contents c.report_on_processors.new.writer) c.report_on_processors.result) (sym not)
    (subst (λ all. RunsAs false all fails may request file (contents c.args.writer.now) (contents c.report_on_processors.new.writer) c.report_on_processors.result) (sym all)
    (runs_on_all fails may request file (contents c.args.writer.now) (contents c.report_on_processors.new.writer) m c.report_on_processors.result
    (shows request file m.dump m.processors (c.in_ok-dump.ensures known) (c.in_ok-processors.ensures known))
    (subst (λ ps. IfOk c.report_on_processors.result (ReportsAll request (words_of_dump m.dump) ps (contents c.args.writer.now) (contents c.report_on_processors.new.writer)))
    c.deref.ensures.value (c.report_on_processors.ensures.written known))
    c.report_on_processors.ensures.errors))

pub returns-then-is_of_processors-clause-notes : goal.returns-then-is_of_processors-clause-notes
returns-then-is_of_processors-clause-notes g c = λ known.
    let request = c.args.request in
    let file = g.S.ByteSource.bytes c.args.source in
    let contents = g.E.Destination.contents in
    let m : DumpedMachine = record { dump = opened g.S.ByteSource.bytes c.in_ok-dump.dump; processors = c.in_ok-processors.processors.items } in
    let not : is_info request.command ≡ false = sym c.is_info.ensures ∙ c.if-is_info.false in
    let all : is_of_processors request ≡ true = sym c.is_of_processors.ensures ∙ c.if-is_of_processors.true in
    let now = c.write_opening.new.notes in
    let ended = c.report_on_processors.new.notes in
    let told = written_at_once contents c.new-notes.result now (opening_text m.dump) c.new-notes.ensures.empty (c.in_ok-write_opening.ensures.all c.new-notes.ensures.empty) (c.in_ok-write_opening.ensures.text known) in
    let begun : Appends (contents c.args.errors.now) (contents now.writer.now) (opening_text m.dump) =
    subst (λ e. Appends (contents e) (contents now.writer.now) (opening_text m.dump)) c.new-notes.ensures.now told in
    on_ok c.report_on_processors.result (λ noted not_image.
    let (name, between, left_out, totals) = noted in
    let same = (c.in_ok-write_opening.ensures.text known).writer in
    let noted : StderrIs request file (contents c.args.errors.now) (contents ended.writer.now) =
    subst (λ info. NotesAs info (is_of_processors request) request file (contents c.args.errors.now) (contents ended.writer.now)) (sym not)
    (subst (λ all. NotesAs false all request file (contents c.args.errors.now) (contents ended.writer.now)) (sym all)
    (m, between, shows request file m.dump m.processors (c.in_ok-dump.ensures known) (c.in_ok-processors.ensures known), Appends-trans _ _ _ _ _ begun left_out, totals)) in
    search (rules, noted))
    (subst (λ ps. OnOk c.report_on_processors.result (AreNoted g.E.Destination.contents request.command (words_of_dump m.dump) ps now ended)) c.deref.ensures.value (c.report_on_processors.ensures.notes known))

pub returns-then-is_of_processors-clause-told : goal.returns-then-is_of_processors-clause-told
returns-then-is_of_processors-clause-told g c = λ known.
    let request = c.args.request in
    let file = g.S.ByteSource.bytes c.args.source in
    let m : DumpedMachine = record { dump = opened g.S.ByteSource.bytes c.in_ok-dump.dump; processors = c.in_ok-processors.processors.items } in
    let Told = g.G.Progress.Told in
    let Ended = g.G.Progress.Ended in
    let before = c.args.progress.now in
    let after = c.report_on_processors.new.progress in
    let not : is_info request.command ≡ false = sym c.is_info.ensures ∙ c.if-is_info.false in
    let all : is_of_processors request ≡ true = sym c.is_of_processors.ensures ∙ c.if-is_of_processors.true in
    subst (λ info. OnOk c.report_on_processors.result (ToldAs info (is_of_processors request) Told Ended request file before after)) (sym not)
    (subst (λ all. OnOk c.report_on_processors.result (ToldAs false all Told Ended request file before after)) (sym all)
    (on_ok c.report_on_processors.result (λ told. (m, shows request file m.dump m.processors (c.in_ok-dump.ensures known) (c.in_ok-processors.ensures known), told))
    (subst (λ ps. OnOk c.report_on_processors.result (InTurn (ToldOfTablesOf Told Ended (words_of_dump m.dump)) (firsts_of ps) before after)) c.deref.ensures.value
    (c.report_on_processors.ensures.told known))))

-- ---- a command on tables

pub returns-in_err-start-clause-run : goal.returns-in_err-start-clause-run
returns-in_err-start-clause-run g c = λ known.
    let request = c.args.request in
    let file = g.S.ByteSource.bytes c.args.source in
    let fails = g.S.ByteSource.may_fail in
    let may = g.W.Destination.may_refuse || g.E.Destination.may_refuse in
    let contents = g.W.Destination.contents in
    let not : is_info request.command ≡ false = sym c.is_info.ensures ∙ c.if-is_info.false in
    let one : is_of_processors request ≡ false = sym c.is_of_processors.ensures ∙ c.if-is_of_processors.false in
    let is : c.from_residual-in_err-start.result ≡ Err c.in_err-start.field-0.0 = search rules in
    subst (λ info. RunsAs info (is_of_processors request) fails may request file (contents c.args.writer.now) (contents c.args.writer.now) c.from_residual-in_err-start.result) (sym not)
    (subst (λ all. RunsAs false all fails may request file (contents c.args.writer.now) (contents c.args.writer.now) c.from_residual-in_err-start.result) (sym one)
    (rw is (
      no_start fails may request file (opened g.S.ByteSource.bytes c.in_ok-dump.dump) c.in_err-start.field-0.0 (c.in_ok-dump.ensures known) (c.in_err-start.ensures.start known),
      inr refl,
    )))

pub returns-clause-run : goal.returns-clause-run
returns-clause-run g c = λ known.
    let request = c.args.request in
    let file = g.S.ByteSource.bytes c.args.source in
    let dump = opened g.S.ByteSource.bytes c.in_ok-dump.dump in
    let start = c.in_ok-start.start in
    let fails = g.S.ByteSource.may_fail in
    let may = g.W.Destination.may_refuse || g.E.Destination.may_refuse in
    let contents = g.W.Destination.contents in
    let before = contents c.args.writer.now in
    let after = contents c.report_from.new.writer in
    let not : is_info request.command ≡ false = sym c.is_info.ensures ∙ c.if-is_info.false in
    let one : is_of_processors request ≡ false = sym c.is_of_processors.ensures ∙ c.if-is_of_processors.false in
    let found : Ok (resolved request dump start) ≡ Ok c.in_ok-resolved.resolved = c.in_ok-resolved.ensures.request known in
    let is : c.in_ok-resolved.resolved ≡ resolved request dump start = cc in
    subst (λ info. RunsAs info (is_of_processors request) fails may request file before after c.report_from.result) (sym not)
    (subst (λ all. RunsAs false all fails may request file before after c.report_from.result) (sym one)
    (runs_by fails may request file before after (record { dump = dump; start = start }) c.report_from.result
    (opens request file dump start (c.in_ok-dump.ensures known) (c.in_ok-start.ensures.start known))
    (subst (λ asked. IfOk c.report_from.result (ReportsOnWords asked (level_count start.levels) (words_of_dump dump) start.root before after)) is (c.report_from.ensures.written known))
    c.report_from.ensures.errors))

pub returns-clause-told : goal.returns-clause-told
returns-clause-told g c = λ known.
    let request = c.args.request in
    let file = g.S.ByteSource.bytes c.args.source in
    let dump = opened g.S.ByteSource.bytes c.in_ok-dump.dump in
    let start = c.in_ok-start.start in
    let not : is_info request.command ≡ false = sym c.is_info.ensures ∙ c.if-is_info.false in
    let one : is_of_processors request ≡ false = sym c.is_of_processors.ensures ∙ c.if-is_of_processors.false in
    subst (λ info. OnOk c.report_from.result (ToldAs info (is_of_processors request) g.G.Progress.Told g.G.Progress.Ended request file c.args.progress.now c.report_from.new.progress)) (sym not)
    (subst (λ all. OnOk c.report_from.result (ToldAs false all g.G.Progress.Told g.G.Progress.Ended request file c.args.progress.now c.report_from.new.progress)) (sym one)
    (on_ok c.report_from.result (λ told. (record { dump = dump; start = start }, opens request file dump start (c.in_ok-dump.ensures known) (c.in_ok-start.ensures.start known), told))
    (c.report_from.ensures.told known)))

pub returns-in_err-resolved-clause-run : goal.returns-in_err-resolved-clause-run
returns-in_err-resolved-clause-run g c = λ known.
    let request = c.args.request in
    let fails = g.S.ByteSource.may_fail in
    let may = g.W.Destination.may_refuse || g.E.Destination.may_refuse in
    let contents = g.W.Destination.contents in
    let failure = c.in_err-resolved.field-0.0 in
    let is : c.from_residual-in_err-resolved.result ≡ Err failure = search rules in
    rw is (forced_run (is_info request.command) (is_of_processors request) fails may request (g.S.ByteSource.bytes c.args.source) (contents c.args.writer.now) (contents c.args.writer.now) failure
    (forced_found fails may failure _ (c.in_err-resolved.ensures.request known)))

pub returns-clause-notes : goal.returns-clause-notes
returns-clause-notes g c = λ known.
    let request = c.args.request in
    let file = g.S.ByteSource.bytes c.args.source in
    let dump = opened g.S.ByteSource.bytes c.in_ok-dump.dump in
    let start = c.in_ok-start.start in
    let contents = g.E.Destination.contents in
    let not : is_info request.command ≡ false = sym c.is_info.ensures ∙ c.if-is_info.false in
    let one : is_of_processors request ≡ false = sym c.is_of_processors.ensures ∙ c.if-is_of_processors.false in
    let text = opening_text dump ++ source_text start.origin ++ noted_levels_text request.levels start.noted_levels in
    let ended = c.write_levels.new.notes in
    let both = puts_both contents c.new-notes.result c.write_opening.new.notes c.write_source.new.notes (opening_text dump) (source_text start.origin) (c.in_ok-write_opening.ensures.text known) c.in_ok-write_source.ensures.text in
    let all = puts_both contents c.new-notes.result c.write_source.new.notes ended (opening_text dump ++ source_text start.origin) (noted_levels_text request.levels start.noted_levels) both c.in_ok-write_levels.ensures in
    let told = put_first contents c.new-notes.result ended text c.new-notes.ensures.empty all in
    let begun : Appends (contents c.args.errors.now) (put_in contents ended) text =
    subst (λ e. Appends (contents e) (put_in contents ended) text) c.new-notes.ensures.now told in
    let registers = registers_for start.registers (unwrap_or request.cpu 0) dump in
    let found : Ok (resolved request dump start) ≡ Ok c.in_ok-resolved.resolved = c.in_ok-resolved.ensures.request known in
    let as_noted : c.in_ok-resolved.resolved ≡ resolved request dump start = cc in
    let is : c.in_ok-resolved.resolved.command ≡ command_by registers request.command = ap (λ r. r.command) as_noted in
    on_ok c.report_from.result (λ totals not_image. let ends = totals (ap is_image is ∙ same_image registers request.command ∙ not_image) in let same = ends.0 in let tied = all.writer in
    let tables : NotesOnTables request file (contents c.args.errors.now) (contents c.report_from.new.notes.writer.now) = (
      record { dump = dump; start = start },
      put_in contents ended,
      opens request file dump start (c.in_ok-dump.ensures known) (c.in_ok-start.ensures.start known),
      begun,
      same_ends registers request.command (level_count start.levels) (words_of_dump dump) start.root (put_in contents ended) (contents c.report_from.new.notes.writer.now)
          (subst (λ asked. EndsByTotals asked (level_count start.levels) (words_of_dump dump) start.root (put_in contents ended) (contents c.report_from.new.notes.writer.now)) is ends.1),
    ) in
    let noted : StderrIs request file (contents c.args.errors.now) (contents c.report_from.new.notes.writer.now) =
    subst (λ info. NotesAs info (is_of_processors request) request file (contents c.args.errors.now) (contents c.report_from.new.notes.writer.now)) (sym not)
    (subst (λ all. NotesAs false all request file (contents c.args.errors.now) (contents c.report_from.new.notes.writer.now)) (sym one) tables) in
    search (rules, noted))
    (c.report_from.ensures.totals known)

-- ---- what the observer isn't told

pub returns-then-is_of_processors-clause-untold : goal.returns-then-is_of_processors-clause-untold
returns-then-is_of_processors-clause-untold g c = if_err c.report_on_processors.result (λ failure forced. inl forced) c.report_on_processors.ensures.errors

pub returns-clause-untold : goal.returns-clause-untold
returns-clause-untold g c = if_err c.report_from.result (λ failure forced. inl forced) c.report_from.ensures.errors

-- ---- writes that standard error refuses

pub returns-in_err-write_opening-clause-run : goal.returns-in_err-write_opening-clause-run
returns-in_err-write_opening-clause-run g c = λ known.
    let fails = g.S.ByteSource.may_fail in
    let a = g.W.Destination.may_refuse in
    let b = g.E.Destination.may_refuse in
    let now = g.W.Destination.contents c.args.writer.now in
    let e = err_from_is_err_and c.from_residual-in_err-write_opening.result c.from_residual-in_err-write_opening.ensures.1 in
    rw e.1 (forced_run (is_info c.args.request.command) (is_of_processors c.args.request) fails (a || b) c.args.request (g.S.ByteSource.bytes c.args.source) now now e.0
    (second_write fails a b e.0 e.2.0))

pub returns-in_err-write_source-clause-run : goal.returns-in_err-write_source-clause-run
returns-in_err-write_source-clause-run g c = λ known.
    let fails = g.S.ByteSource.may_fail in
    let a = g.W.Destination.may_refuse in
    let b = g.E.Destination.may_refuse in
    let now = g.W.Destination.contents c.args.writer.now in
    let e = err_from_is_err_and c.from_residual-in_err-write_source.result c.from_residual-in_err-write_source.ensures.1 in
    rw e.1 (forced_run (is_info c.args.request.command) (is_of_processors c.args.request) fails (a || b) c.args.request (g.S.ByteSource.bytes c.args.source) now now e.0
    (second_write fails a b e.0 e.2.0))

pub returns-in_err-write_levels-clause-run : goal.returns-in_err-write_levels-clause-run
returns-in_err-write_levels-clause-run g c = λ known.
    let fails = g.S.ByteSource.may_fail in
    let a = g.W.Destination.may_refuse in
    let b = g.E.Destination.may_refuse in
    let now = g.W.Destination.contents c.args.writer.now in
    let e = err_from_is_err_and c.from_residual-in_err-write_levels.result c.from_residual-in_err-write_levels.ensures.1 in
    rw e.1 (forced_run (is_info c.args.request.command) (is_of_processors c.args.request) fails (a || b) c.args.request (g.S.ByteSource.bytes c.args.source) now now e.0
    (second_write fails a b e.0 e.2.0))

-- ---- an observer that is told nothing

unchanged : {T G : Type 0} (P : Failure → Type 0) (now : G) (result : Result T Failure) → IfErr result (λ failure. P failure ⊎ (now ≡ now))
unchanged P now (Ok x) = tt
unchanged P now (Err failure) = inr refl

pub returns-in_err-dump-clause-counted : goal.returns-in_err-dump-clause-counted
returns-in_err-dump-clause-counted g c = told_nothing g.G.Progress.Told g.G.Progress.Ended c.args.progress.now

pub returns-in_err-dump-clause-untold : goal.returns-in_err-dump-clause-untold
returns-in_err-dump-clause-untold g c = unchanged _ c.args.progress.now c.from_residual.result

pub returns-in_err-write_opening-clause-counted : goal.returns-in_err-write_opening-clause-counted
returns-in_err-write_opening-clause-counted g c = told_nothing g.G.Progress.Told g.G.Progress.Ended c.args.progress.now

pub returns-in_err-write_opening-clause-untold : goal.returns-in_err-write_opening-clause-untold
returns-in_err-write_opening-clause-untold g c = unchanged _ c.args.progress.now c.from_residual-in_err-write_opening.result

pub returns-then-is_info-clause-counted : goal.returns-then-is_info-clause-counted
returns-then-is_info-clause-counted g c = told_nothing g.G.Progress.Told g.G.Progress.Ended c.args.progress.now

pub returns-then-is_info-clause-untold : goal.returns-then-is_info-clause-untold
returns-then-is_info-clause-untold g c = unchanged _ c.args.progress.now c.write_info.result

pub returns-in_err-processors-clause-counted : goal.returns-in_err-processors-clause-counted
returns-in_err-processors-clause-counted g c = told_nothing g.G.Progress.Told g.G.Progress.Ended c.args.progress.now

pub returns-in_err-processors-clause-untold : goal.returns-in_err-processors-clause-untold
returns-in_err-processors-clause-untold g c = unchanged _ c.args.progress.now c.from_residual-in_err-processors.result

pub returns-in_err-start-clause-counted : goal.returns-in_err-start-clause-counted
returns-in_err-start-clause-counted g c = told_nothing g.G.Progress.Told g.G.Progress.Ended c.args.progress.now

pub returns-in_err-start-clause-untold : goal.returns-in_err-start-clause-untold
returns-in_err-start-clause-untold g c = unchanged _ c.args.progress.now c.from_residual-in_err-start.result

pub returns-in_err-write_source-clause-counted : goal.returns-in_err-write_source-clause-counted
returns-in_err-write_source-clause-counted g c = told_nothing g.G.Progress.Told g.G.Progress.Ended c.args.progress.now

pub returns-in_err-write_source-clause-untold : goal.returns-in_err-write_source-clause-untold
returns-in_err-write_source-clause-untold g c = unchanged _ c.args.progress.now c.from_residual-in_err-write_source.result

pub returns-in_err-write_levels-clause-counted : goal.returns-in_err-write_levels-clause-counted
returns-in_err-write_levels-clause-counted g c = told_nothing g.G.Progress.Told g.G.Progress.Ended c.args.progress.now

pub returns-in_err-write_levels-clause-untold : goal.returns-in_err-write_levels-clause-untold
returns-in_err-write_levels-clause-untold g c = unchanged _ c.args.progress.now c.from_residual-in_err-write_levels.result

pub returns-in_err-resolved-clause-counted : goal.returns-in_err-resolved-clause-counted
returns-in_err-resolved-clause-counted g c = told_nothing g.G.Progress.Told g.G.Progress.Ended c.args.progress.now

pub returns-in_err-resolved-clause-untold : goal.returns-in_err-resolved-clause-untold
returns-in_err-resolved-clause-untold g c = unchanged _ c.args.progress.now c.from_residual-in_err-resolved.result
