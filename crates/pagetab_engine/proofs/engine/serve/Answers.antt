use Rattle.std.proofs.Common.{rules, ◌≡◌, ◌∙◌, sym, Err, map, string_bytes}
use Rattle.pagetab_engine.specs.Hierarchy.{ModeReaches}
use Rattle.pagetab_engine.specs.private.RunParts.{IsEmpty, ending_of}
use Rattle.pagetab_engine.specs.declared.ending.Fault.TheVariants.{OutOfMemory}
use Rattle.pagetab_engine.proofs.WholeRun.{no_arguments, no_memory, not_reached, goes_on}
use Rattle.pagetab_engine.proofs.engine.serve.Goals as goal

pub returns-in_default : goal.returns-in_default
returns-in_default g c =
    let words = map string_bytes c.args.words.now in
    no_arguments words (g.R.Read.remaining c.args.reader.now) (g.W.Write.contents c.args.writer.now) (sym c.parse.ensures ∙ c.in_default.is)

pub returns-in_err-hierarchy : goal.returns-in_err-hierarchy
returns-in_err-hierarchy g c =
    let words = map string_bytes c.args.words.now in
    let told : c.from_residual.result ≡ Err OutOfMemory = search rules in
    rw told (no_memory words (g.R.Read.remaining c.args.reader.now) (g.W.Write.contents c.args.writer.now) c.in-Some.arguments (sym c.parse.ensures ∙ c.in-Some.is))

pub returns-then-not-is_reached : goal.returns-then-not-is_reached
returns-then-not-is_reached g c =
    let words = map string_bytes c.args.words.now in
    let arguments = c.in-Some.arguments in
    let empty = c.in_ok-hierarchy.hierarchy in
    let are = sym c.parse.ensures ∙ c.in-Some.is in
    let is_empty : IsEmpty arguments empty = search rules in
    let never : ¬ (ModeReaches empty.mode empty.frames.memory) = search rules in
    not_reached words (g.R.Read.remaining c.args.reader.now) (g.W.Write.contents c.args.writer.now) arguments are empty is_empty never

pub returns : goal.returns
returns g c =
    let words = map string_bytes c.args.words.now in
    let arguments = c.in-Some.arguments in
    let empty = c.in_ok-hierarchy.hierarchy in
    let are = sym c.parse.ensures ∙ c.in-Some.is in
    let is_empty : IsEmpty arguments empty = search rules in
    let reached : ModeReaches empty.mode empty.frames.memory = search rules in
    goes_on words (g.R.Read.remaining c.args.reader.now) (g.W.Write.contents c.args.writer.now) arguments are empty is_empty reached
    (ending_of c.serve_levels.result) _ c.serve_levels.ensures
