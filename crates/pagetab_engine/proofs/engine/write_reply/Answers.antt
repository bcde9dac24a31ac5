use Rattle.std.proofs.Common.{◌≡◌, ◌<◌, ◌∙◌, ℕ, List, length, Err, sym, ap, subst}
use Rattle.std.proofs.lemmas.Result.{IfOk-from_err, IfOk-weaker, IfErr-weaker, err_from_is_err_and}
use Rattle.std.specs.Io.KnownBytes.{Appends}
use Rattle.pagetab_engine.specs.Commands.{command_of}
use Rattle.pagetab_engine.specs.private.RunParts.{AnswersCommand, AppendsFront, Replies, CommandStops}
use Rattle.pagetab_engine.specs.Reply.{reply_of}
use Rattle.pagetab_engine.specs.Texts.{reply_line}
use Rattle.pagetab_engine.specs.declared.ending.Fault.TheVariants.{Output, OutOfMemory}
use Rattle.pagetab_engine.specs.declared.hierarchy.Hierarchy.{Hierarchy}
use Rattle.pagetab_engine.specs.Hierarchy.{KeepsHierarchy}
use Rattle.pagetab_engine.proofs.Keeping.{keeps_itself}
use Rattle.pagetab_engine.proofs.Written.{appends_nothing, some_line}
use Rattle.pagetab_engine.proofs.engine.write_reply.Goals as goal

pub returns-in_err-text-clause-stopped : goal.returns-in_err-text-clause-stopped
returns-in_err-text-clause-stopped g c =
    let e = err_from_is_err_and c.from_residual-in_err-text.result c.from_residual-in_err-text.ensures.1 in
    let told : c.from_residual-in_err-text.result ≡ Err OutOfMemory = e.1 ∙ ap Err e.2 in
    rw told (appends_nothing (g.W.Write.contents c.args.writer.now))

pub returns-clause-answered : goal.returns-clause-answered
returns-clause-answered g c =
    let contents = g.W.Write.contents in
    let command = command_of g.L.LevelCount.LEVELS g.P5.LevelFiveFlags.bits c.args.command in
    let reply = reply_of c.in_ok-reply.reply in
    let text : c.as_bytes.result.now ≡ reply_line reply = c.as_bytes.ensures.value ∙ c.in_ok-text.ensures.ok in
    let answers : AnswersCommand command c.args.hierarchy.now reply c.answer.new.hierarchy = c.in_ok-reply.ensures.answers in
    let old = contents c.args.writer.now in
    let new = contents c.write_line.new.writer in
    IfOk-weaker c.write_line.result (λ _. Appends old new c.as_bytes.result.now) (λ _. Replies command c.args.hierarchy.now c.answer.new.hierarchy old new)
    (λ _ appends. (reply, answers, subst (λ bytes. Appends old new bytes) text appends)) c.write_line.ensures.whole

pub returns-clause-stopped : goal.returns-clause-stopped
returns-clause-stopped g c =
    let contents = g.W.Write.contents in
    let command = command_of g.L.LevelCount.LEVELS g.P5.LevelFiveFlags.bits c.args.command in
    let reply = reply_of c.in_ok-reply.reply in
    let text : c.as_bytes.result.now ≡ reply_line reply = c.as_bytes.ensures.value ∙ c.in_ok-text.ensures.ok in
    let answers : AnswersCommand command c.args.hierarchy.now reply c.answer.new.hierarchy = c.in_ok-reply.ensures.answers in
    let old = contents c.args.writer.now in
    let new = contents c.write_line.new.writer in
    IfErr-weaker c.write_line.result (λ fault. (fault ≡ Output) × AppendsFront old new c.as_bytes.result.now) (CommandStops command c.args.hierarchy.now c.answer.new.hierarchy old new)
    (λ fault told. subst (λ fault. CommandStops command c.args.hierarchy.now c.answer.new.hierarchy old new fault) (sym told.0)
    (reply, answers, subst (λ bytes. AppendsFront old new bytes) text told.1)) c.write_line.ensures.cut

pub returns-in_err-reply-clause-answered : goal.returns-in_err-reply-clause-answered
returns-in_err-reply-clause-answered g c = IfOk-from_err c.from_residual.result _ c.from_residual.ensures.0

pub returns-in_err-reply-clause-stopped : goal.returns-in_err-reply-clause-stopped
returns-in_err-reply-clause-stopped g c =
    let e = err_from_is_err_and c.from_residual.result c.from_residual.ensures.1 in
    let told : c.from_residual.result ≡ Err OutOfMemory = e.1 ∙ ap Err e.2 in
    rw told (appends_nothing (g.W.Write.contents c.args.writer.now))

pub returns-in_err-reply-clause-keeps : goal.returns-in_err-reply-clause-keeps
returns-in_err-reply-clause-keeps g c =
    let before = c.args.hierarchy.now in
    subst (λ (after : Hierarchy). KeepsHierarchy before after) (sym c.in_err-reply.ensures.unchanged) (keeps_itself before c.requires.fits)

pub returns-in_err-text-clause-answered : goal.returns-in_err-text-clause-answered
returns-in_err-text-clause-answered g c = IfOk-from_err c.from_residual-in_err-text.result _ c.from_residual-in_err-text.ensures.0

pub returns-in_err-text-clause-keeps : goal.returns-in_err-text-clause-keeps
returns-in_err-text-clause-keeps g c = c.in_ok-reply.ensures.answers.keeps

pub returns-clause-keeps : goal.returns-clause-keeps
returns-clause-keeps g c = c.in_ok-reply.ensures.answers.keeps

pub write_line-requires : goal.write_line-requires
write_line-requires g c =
    let reply = reply_of c.in_ok-reply.reply in
    let text : c.as_bytes.result.now ≡ reply_line reply = c.as_bytes.ensures.value ∙ c.in_ok-text.ensures.ok in
    subst (λ (bytes : List ℕ). 0 < length bytes) (sym text) (some_line reply)
