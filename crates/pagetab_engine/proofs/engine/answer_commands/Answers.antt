use Rattle.std.proofs.Common.{rules, ◌≡◌, ap, ◌∙◌, [], Some, None, Ok, Err}
use Rattle.pagetab_engine.specs.Arguments.{count, levels_of}
use Rattle.pagetab_engine.specs.Commands.{Asks, Image, command_of}
use Rattle.pagetab_engine.specs.Lines.{bytes_left, MayBeLeft, TakesStatement, TracesBack}
use Rattle.pagetab_engine.specs.declared.statement.Statement.TheVariants as says
use Rattle.pagetab_engine.proofs.ServedCommands.{begins, first_stops, next_served, next_stops, all_served, image_too_late, unread}
use Rattle.pagetab_engine.proofs.Numbering.{some_lines}
use Rattle.pagetab_engine.proofs.engine.answer_commands.Goals as goal

pub returns-in_err-write_reply : goal.returns-in_err-write_reply
returns-in_err-write_reply g c =
    let may = MayBeLeft g.R.Read.remaining in
    let contents = g.W.Write.contents in
    let some = some_lines c.args.lines.now.number (bytes_left g.R.Read.remaining c.args.lines.now) in
    let stops = first_stops g.L.LevelCount.LEVELS c.args.places (command_of g.L.LevelCount.LEVELS g.P5.LevelFiveFlags.bits c.args.first) c.args.hierarchy.now (contents c.args.writer.now) (may c.args.lines.now)
    some c.write_reply.new.hierarchy (contents c.write_reply.new.writer) c.in_err-write_reply.field-0.0 c.in_err-write_reply.ensures.stopped in
    let told : c.from_residual.result ≡ Err c.in_err-write_reply.field-0.0 = search rules in
    rw told stops

pub loop-statement-init : goal.loop-statement-init
loop-statement-init g c =
    let may = MayBeLeft g.R.Read.remaining in
    let contents = g.W.Write.contents in
    record {
      fits = c.write_reply.ensures.keeps.fits;
      levels = ap (λ mode. count (levels_of mode)) c.write_reply.ensures.keeps.mode ∙ c.requires.levels;
      served = begins g.L.LevelCount.LEVELS c.args.places (command_of g.L.LevelCount.LEVELS g.P5.LevelFiveFlags.bits c.args.first) c.args.hierarchy.now (contents c.args.writer.now) (may c.args.lines.now)
          c.write_reply.new.hierarchy (contents c.write_reply.new.writer) c.in_ok-write_reply.ensures.answered;
    }

pub returns-in_err-statement : goal.returns-in_err-statement
returns-in_err-statement g c =
    let may = MayBeLeft g.R.Read.remaining in
    let contents = g.W.Write.contents in
    let stops = unread g.L.LevelCount.LEVELS c.args.places (command_of g.L.LevelCount.LEVELS g.P5.LevelFiveFlags.bits c.args.first) c.args.hierarchy.now (contents c.args.writer.now) (may c.args.lines.now)
    c.loop-statement.hierarchy (contents c.loop-statement.writer) (may c.loop-statement.lines) c.loop-statement.invariant.served c.in_err-statement.field-0.0 c.in_err-statement.ensures.why in
    let told : c.from_residual-in_err-statement.result ≡ Err c.in_err-statement.field-0.0 = search rules in
    rw told stops

pub loop-statement-preserved : goal.loop-statement-preserved
loop-statement-preserved g c =
    let may = MayBeLeft g.R.Read.remaining in
    let contents = g.W.Write.contents in
    let next = c.next_statement.new.self in
    let read : c.next_statement.result ≡ Ok (Some (says.Command c.in-Command.command)) = search rules in
    let takes : TracesBack (may c.loop-statement.lines) (may next) (λ lines rest. TakesStatement g.L.LevelCount.LEVELS c.args.places lines next.number rest (Asks (command_of g.L.LevelCount.LEVELS g.P5.LevelFiveFlags.bits c.in-Command.command))) = rw read at c.next_statement.ensures.next in
    record {
      fits = c.write_reply-in-Command.ensures.keeps.fits;
      levels = ap (λ mode. count (levels_of mode)) c.write_reply-in-Command.ensures.keeps.mode ∙ c.loop-statement.invariant.levels;
      served = next_served g.L.LevelCount.LEVELS c.args.places (command_of g.L.LevelCount.LEVELS g.P5.LevelFiveFlags.bits c.args.first) c.args.hierarchy.now (contents c.args.writer.now) (may c.args.lines.now)
          c.loop-statement.hierarchy (contents c.loop-statement.writer) (may c.loop-statement.lines) c.loop-statement.invariant.served
          (may next) next.number (command_of g.L.LevelCount.LEVELS g.P5.LevelFiveFlags.bits c.in-Command.command)
          c.write_reply-in-Command.new.hierarchy (contents c.write_reply-in-Command.new.writer) takes c.in_ok-write_reply-in-Command.ensures.answered;
    }

pub returns-in_err-write_reply-in-Command : goal.returns-in_err-write_reply-in-Command
returns-in_err-write_reply-in-Command g c =
    let may = MayBeLeft g.R.Read.remaining in
    let contents = g.W.Write.contents in
    let next = c.next_statement.new.self in
    let some = some_lines next.number (bytes_left g.R.Read.remaining next) in
    let read : c.next_statement.result ≡ Ok (Some (says.Command c.in-Command.command)) = search rules in
    let takes : TracesBack (may c.loop-statement.lines) (may next) (λ lines rest. TakesStatement g.L.LevelCount.LEVELS c.args.places lines next.number rest (Asks (command_of g.L.LevelCount.LEVELS g.P5.LevelFiveFlags.bits c.in-Command.command))) = rw read at c.next_statement.ensures.next in
    let stops = next_stops g.L.LevelCount.LEVELS c.args.places (command_of g.L.LevelCount.LEVELS g.P5.LevelFiveFlags.bits c.args.first) c.args.hierarchy.now (contents c.args.writer.now) (may c.args.lines.now)
    c.loop-statement.hierarchy (contents c.loop-statement.writer) (may c.loop-statement.lines) c.loop-statement.invariant.served
    (may next) some next.number (command_of g.L.LevelCount.LEVELS g.P5.LevelFiveFlags.bits c.in-Command.command)
    c.write_reply-in-Command.new.hierarchy (contents c.write_reply-in-Command.new.writer) c.in_err-write_reply-in-Command.field-0.0 takes c.in_err-write_reply-in-Command.ensures.stopped in
    let told : c.from_residual-in_err-write_reply-in-Command.result ≡ Err c.in_err-write_reply-in-Command.field-0.0 = search rules in
    rw told stops

pub returns-in-Image : goal.returns-in-Image
returns-in-Image g c =
    let may = MayBeLeft g.R.Read.remaining in
    let contents = g.W.Write.contents in
    let next = c.next_statement.new.self in
    let some = some_lines next.number (bytes_left g.R.Read.remaining next) in
    let read : c.next_statement.result ≡ Ok (Some (says.Image c.in-Image.field-0)) = search rules in
    let takes : TracesBack (may c.loop-statement.lines) (may next) (λ lines rest. TakesStatement g.L.LevelCount.LEVELS c.args.places lines next.number rest (Image c.in-Image.field-0)) = rw read at c.next_statement.ensures.next in
    let stops = image_too_late g.L.LevelCount.LEVELS c.args.places (command_of g.L.LevelCount.LEVELS g.P5.LevelFiveFlags.bits c.args.first) c.args.hierarchy.now (contents c.args.writer.now) (may c.args.lines.now)
    c.loop-statement.hierarchy (contents c.loop-statement.writer) (may c.loop-statement.lines) c.loop-statement.invariant.served (may next) some next.number c.in-Image.field-0 takes in
    rw c.fault.ensures stops

pub returns : goal.returns
returns g c =
    let may = MayBeLeft g.R.Read.remaining in
    let contents = g.W.Write.contents in
    let next = c.next_statement.new.self in
    let some = some_lines next.number (bytes_left g.R.Read.remaining next) in
    let read : c.next_statement.result ≡ Ok None = search rules in
    let none : TracesBack (may c.loop-statement.lines) (may next) (λ lines rest. lines ≡ []) = rw read at c.next_statement.ensures.next in
    let stops = all_served g.L.LevelCount.LEVELS c.args.places (command_of g.L.LevelCount.LEVELS g.P5.LevelFiveFlags.bits c.args.first) c.args.hierarchy.now (contents c.args.writer.now) (may c.args.lines.now)
    c.loop-statement.hierarchy (contents c.loop-statement.writer) (may c.loop-statement.lines) c.loop-statement.invariant.served (may next) some none in
    search (rules, stops)
