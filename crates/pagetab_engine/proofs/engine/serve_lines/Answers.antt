use Rattle.std.proofs.Common.{rules, ◌≡◌, Some, None, Err, option_map}
use Rattle.pagetab_engine.specs.Commands.{command_of}
use Rattle.pagetab_engine.specs.Hierarchy.{FitsImage}
use Rattle.pagetab_engine.specs.Lines.{bytes_left, MayBeLeft}
use Rattle.pagetab_engine.specs.private.RunParts.{IsFirst, ending_of}
use Rattle.pagetab_engine.specs.declared.ending.Ending.TheVariants.{Done, Stopped}
use Rattle.pagetab_engine.specs.declared.ending.Fault.TheVariants.{InvalidHierarchy, OutOfMemory}
use Rattle.pagetab_engine.proofs.Numbering.{some_lines}
use Rattle.pagetab_engine.proofs.WholeRun.{RunsLines, of_input, stops_in_image, not_tested, not_fitting, no_commands, commands}
use Rattle.pagetab_engine.proofs.engine.serve_lines.Goals as goal

pub returns-in_err-first : goal.returns-in_err-first
returns-in_err-first g c =
    let may = MayBeLeft g.R.Read.remaining c.new-lines.result in
    let held = g.W.Write.contents c.args.writer.now in
    let levels = g.L.LevelCount.LEVELS in
    let places = c.args.places in
    let empty = c.args.hierarchy.now in
    let fault = c.in_err-first.field-0.0 in
    let told : c.from_residual.result ≡ Err fault = search rules in
    rw told (of_input (RunsLines may held levels places empty held (Stopped fault)) c.new-lines.result.number _ _ c.new-lines.ensures.number c.new-lines.ensures.bytes
    (stops_in_image may held levels places empty fault c.in_err-first.ensures.stopped))

pub returns-in_err-end_image : goal.returns-in_err-end_image
returns-in_err-end_image g c =
    let may = MayBeLeft g.R.Read.remaining in
    let held = g.W.Write.contents c.args.writer.now in
    let levels = g.L.LevelCount.LEVELS in
    let places = c.args.places in
    let empty = c.args.hierarchy.now in
    let after = c.read_image.new.lines in
    let some = some_lines after.number (bytes_left g.R.Read.remaining after) in
    let told : c.from_residual-in_err-end_image.result ≡ Err OutOfMemory = search rules in
    rw told (of_input (RunsLines (may c.new-lines.result) held levels places empty held (Stopped OutOfMemory)) c.new-lines.result.number _ _ c.new-lines.ensures.number c.new-lines.ensures.bytes
    (not_tested (may c.new-lines.result) held levels places empty c.read_image.new.hierarchy c.in_ok-first.ensures.mode (option_map (command_of g.L.LevelCount.LEVELS g.P5.LevelFiveFlags.bits) c.in_ok-first.first) (may after) c.in_ok-first.ensures.read some))

pub returns-then-not-branch : goal.returns-then-not-branch
returns-then-not-branch g c =
    let may = MayBeLeft g.R.Read.remaining in
    let held = g.W.Write.contents c.args.writer.now in
    let levels = g.L.LevelCount.LEVELS in
    let places = c.args.places in
    let empty = c.args.hierarchy.now in
    let after = c.read_image.new.lines in
    let image = c.read_image.new.hierarchy in
    let some = some_lines after.number (bytes_left g.R.Read.remaining after) in
    let never : ¬ (FitsImage image) = search rules in
    of_input (RunsLines (may c.new-lines.result) held levels places empty held (Stopped InvalidHierarchy)) c.new-lines.result.number _ _ c.new-lines.ensures.number c.new-lines.ensures.bytes
    (not_fitting (may c.new-lines.result) held levels places empty image c.in_ok-first.ensures.mode (option_map (command_of g.L.LevelCount.LEVELS g.P5.LevelFiveFlags.bits) c.in_ok-first.first) (may after) c.in_ok-first.ensures.read some never)

pub returns-in-Some : goal.returns-in-Some
returns-in-Some g c =
    let may = MayBeLeft g.R.Read.remaining in
    let contents = g.W.Write.contents in
    let held = contents c.args.writer.now in
    let levels = g.L.LevelCount.LEVELS in
    let places = c.args.places in
    let empty = c.args.hierarchy.now in
    let image = c.read_image.new.hierarchy in
    let ready = c.end_image.new.self in
    let fits : FitsImage image = search rules in
    let is_first : IsFirst image ready = search rules in
    let asked : option_map (command_of g.L.LevelCount.LEVELS g.P5.LevelFiveFlags.bits) c.in_ok-first.first ≡ Some (command_of g.L.LevelCount.LEVELS g.P5.LevelFiveFlags.bits c.in-Some.command) = search rules in
    let ending = ending_of c.answer_commands.result in
    let new = contents c.answer_commands.new.writer in
    of_input (RunsLines (may c.new-lines.result) held levels places empty new ending) c.new-lines.result.number _ _ c.new-lines.ensures.number c.new-lines.ensures.bytes
    (commands (may c.new-lines.result) held levels places empty image c.in_ok-first.ensures.mode (option_map (command_of g.L.LevelCount.LEVELS g.P5.LevelFiveFlags.bits) c.in_ok-first.first) (may c.read_image.new.lines) c.in_ok-first.ensures.read fits ready is_first
    (command_of g.L.LevelCount.LEVELS g.P5.LevelFiveFlags.bits c.in-Some.command) ending new asked c.answer_commands.ensures)

pub returns-in-None : goal.returns-in-None
returns-in-None g c =
    let may = MayBeLeft g.R.Read.remaining in
    let held = g.W.Write.contents c.args.writer.now in
    let levels = g.L.LevelCount.LEVELS in
    let places = c.args.places in
    let empty = c.args.hierarchy.now in
    let after = c.read_image.new.lines in
    let image = c.read_image.new.hierarchy in
    let some = some_lines after.number (bytes_left g.R.Read.remaining after) in
    let fits : FitsImage image = search rules in
    let ready = c.end_image.new.self in
    let is_first : IsFirst image ready = search rules in
    let none : option_map (command_of g.L.LevelCount.LEVELS g.P5.LevelFiveFlags.bits) c.in_ok-first.first ≡ None = search rules in
    of_input (RunsLines (may c.new-lines.result) held levels places empty held Done) c.new-lines.result.number _ _ c.new-lines.ensures.number c.new-lines.ensures.bytes
    (no_commands (may c.new-lines.result) held levels places empty image c.in_ok-first.ensures.mode (option_map (command_of g.L.LevelCount.LEVELS g.P5.LevelFiveFlags.bits) c.in_ok-first.first) (may after) c.in_ok-first.ensures.read fits ready is_first some none)
