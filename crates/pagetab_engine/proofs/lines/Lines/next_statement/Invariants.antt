use Rattle.std.proofs.Common.{◌≤◌, ◌-◌, ◌^◌}
use Rattle.pagetab_engine.specs.Lines.{MayBeLeft}
use Rattle.pagetab_engine.proofs.Numbering.{PassesBlank}
use Rattle.pagetab_engine.proofs.lines.Lines.next_statement.Given as goal

-- the lines that were skipped were blank
abbrev pub invariant-loop-number : goal.invariant-loop-number
invariant-loop-number g l =
    let may = MayBeLeft g.R.Read.remaining in
    record {
      blank : PassesBlank (may l.fn.self) (may l.self);
      counted : l.fn.self.number ≤ l.self.number;
    }

abbrev pub decreases-loop-number : goal.decreases-loop-number
decreases-loop-number g l = 2 ^ 64 - l.self.number
