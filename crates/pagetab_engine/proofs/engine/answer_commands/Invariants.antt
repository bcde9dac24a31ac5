use Rattle.std.proofs.Common.{◌≡◌, ◌^◌, ◌-◌}
use Rattle.pagetab_engine.specs.Arguments.{count, levels_of}
use Rattle.pagetab_engine.specs.Commands.{command_of}
use Rattle.pagetab_engine.specs.Hierarchy.{IsHierarchy}
use Rattle.pagetab_engine.specs.Lines.{MayBeLeft, TracesBack}
use Rattle.pagetab_engine.specs.private.RunParts.{ServedUntil}
use Rattle.pagetab_engine.proofs.engine.answer_commands.Given as goal

abbrev pub invariant-loop-statement : goal.invariant-loop-statement
invariant-loop-statement g l =
    let may = MayBeLeft g.R.Read.remaining in
    let contents = g.W.Write.contents in
    record {
      fits : IsHierarchy l.hierarchy;
      levels : count (levels_of l.hierarchy.mode) ≡ g.L.LevelCount.LEVELS;
      served : TracesBack (may l.fn.lines) (may l.lines)
          (λ behind left. ServedUntil g.L.LevelCount.LEVELS l.places (command_of g.L.LevelCount.LEVELS g.P5.LevelFiveFlags.bits l.fn.first) behind l.fn.hierarchy (contents l.fn.writer) (contents l.writer) left l.hierarchy);
    }

abbrev pub decreases-loop-statement : goal.decreases-loop-statement
decreases-loop-statement g l = 2 ^ 64 - l.lines.number
