use Rattle.std.proofs.Common.{rules, arith, ◌≡◌, ◌∙◌, refl, [], Some, None, Ok, Err}
use Rattle.pagetab_engine.specs.Commands.{Asks, Image, command_of}
use Rattle.pagetab_engine.specs.Frames.{IsLoadable}
use Rattle.pagetab_engine.specs.Lines.{bytes_left, IsCounted, MayBeLeft, TakesStatement, TracesBack}
use Rattle.pagetab_engine.specs.private.RunParts.{Loads}
use Rattle.pagetab_engine.specs.declared.statement.Statement.TheVariants as says
use Rattle.pagetab_engine.proofs.LoadedImages.{begins, goes_on, command_follows, nothing_follows, unread, not_loaded}
use Rattle.pagetab_engine.proofs.Numbering.{some_lines}
use Rattle.pagetab_engine.proofs.engine.read_image.Goals as goal

pub loop-statement-init : goal.loop-statement-init
loop-statement-init g c = record {
  copy = c.requires.copy;
  reached = c.requires.reached;
  mode = refl;
  follows = begins g.L.LevelCount.LEVELS c.args.places c.args.hierarchy.now (MayBeLeft g.R.Read.remaining c.args.lines.now);
}

pub returns-in_err-statement-clause-stopped : goal.returns-in_err-statement-clause-stopped
returns-in_err-statement-clause-stopped g c =
    let may = MayBeLeft g.R.Read.remaining in
    let stops = unread g.L.LevelCount.LEVELS c.args.places c.args.hierarchy.now (may c.args.lines.now) c.loop-statement.hierarchy (may c.loop-statement.lines) c.loop-statement.invariant.follows
    c.in_err-statement.field-0.0 c.in_err-statement.ensures.why in
    let told : c.from_residual.result ≡ Err c.in_err-statement.field-0.0 = search rules in
    rw told stops

pub returns-then-is_err-clause-stopped : goal.returns-then-is_err-clause-stopped
returns-then-is_err-clause-stopped g c =
    let may = MayBeLeft g.R.Read.remaining in
    let next = c.next_statement.new.self in
    let read : c.next_statement.result ≡ Ok (Some (says.Image c.in-Image.line)) = search rules in
    let takes : TracesBack (may c.loop-statement.lines) (may next) (λ lines rest. TakesStatement g.L.LevelCount.LEVELS c.args.places lines next.number rest (Image c.in-Image.line)) = rw read at c.next_statement.ensures.next in
    let never : ¬ (IsLoadable c.loop-statement.hierarchy.frames c.in-Image.line) = search rules in
    let stops = not_loaded g.L.LevelCount.LEVELS c.args.places c.args.hierarchy.now (may c.args.lines.now) c.loop-statement.hierarchy (may c.loop-statement.lines) c.loop-statement.invariant.follows
    (may next) next.number c.in-Image.line (some_lines next.number (bytes_left g.R.Read.remaining next)) takes never in
    rw c.fault.ensures stops

pub loop-statement-smaller : goal.loop-statement-smaller
loop-statement-smaller g c =
    let counted : IsCounted c.loop-statement.lines.number c.next_statement.new.self.number = search rules in
    omega (arith, counted)

pub loop-statement-preserved : goal.loop-statement-preserved
loop-statement-preserved g c =
    let may = MayBeLeft g.R.Read.remaining in
    let next = c.next_statement.new.self in
    let read : c.next_statement.result ≡ Ok (Some (says.Image c.in-Image.line)) = search rules in
    let takes : TracesBack (may c.loop-statement.lines) (may next) (λ lines rest. TakesStatement g.L.LevelCount.LEVELS c.args.places lines next.number rest (Image c.in-Image.line)) = rw read at c.next_statement.ensures.next in
    let loaded : Loads c.in-Image.line c.loop-statement.hierarchy c.load.new.self = search rules in
    record {
      copy = loaded.copy;
      reached = c.load.ensures.reached c.loop-statement.invariant.reached;
      mode = loaded.mode ∙ c.loop-statement.invariant.mode;
      follows = goes_on g.L.LevelCount.LEVELS c.args.places c.args.hierarchy.now (may c.args.lines.now) c.loop-statement.hierarchy (may c.loop-statement.lines) c.loop-statement.invariant.follows
          (may next) next.number c.in-Image.line c.load.new.self takes loaded;
    }

pub returns-in-Command-clause-read : goal.returns-in-Command-clause-read
returns-in-Command-clause-read g c =
    let may = MayBeLeft g.R.Read.remaining in
    let next = c.next_statement.new.self in
    let read : c.next_statement.result ≡ Ok (Some (says.Command c.in-Command.command)) = search rules in
    let takes : TracesBack (may c.loop-statement.lines) (may next) (λ lines rest. TakesStatement g.L.LevelCount.LEVELS c.args.places lines next.number rest (Asks (command_of g.L.LevelCount.LEVELS g.P5.LevelFiveFlags.bits c.in-Command.command))) = rw read at c.next_statement.ensures.next in
    command_follows g.L.LevelCount.LEVELS c.args.places c.args.hierarchy.now (may c.args.lines.now) c.loop-statement.hierarchy (may c.loop-statement.lines) c.loop-statement.invariant.follows
    (may next) next.number (command_of g.L.LevelCount.LEVELS g.P5.LevelFiveFlags.bits c.in-Command.command) takes

pub returns-clause-read : goal.returns-clause-read
returns-clause-read g c =
    let may = MayBeLeft g.R.Read.remaining in
    let next = c.next_statement.new.self in
    let read : c.next_statement.result ≡ Ok None = search rules in
    let none : TracesBack (may c.loop-statement.lines) (may next) (λ lines rest. lines ≡ []) = rw read at c.next_statement.ensures.next in
    nothing_follows g.L.LevelCount.LEVELS c.args.places c.args.hierarchy.now (may c.args.lines.now) c.loop-statement.hierarchy (may c.loop-statement.lines) c.loop-statement.invariant.follows (may next) none
