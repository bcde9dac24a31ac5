use Rattle.std.proofs.Common.{◌≡◌, ◌<◌, ◌++◌, ℕ, List, length}
use Rattle.std.specs.Io.KnownBytes.{Appends}
use Rattle.pagetab_engine.proofs.engine.write_line.Given as goal

-- a first part of the line was written, and the rest was not
abbrev pub invariant-loop : goal.invariant-loop
invariant-loop g l =
    let contents = g.W.Write.contents in
    (done : List ℕ) × (l.fn.line ≡ done ++ l.rest) × Appends (contents l.fn.writer) (contents l.writer) done × (0 < length l.rest)
