use Rattle.std.proofs.Common.{◌≡◌, ◌^◌, ◌-◌}
use Rattle.pagetab_engine.specs.Hierarchy.{HasCopy, ModeReaches}
use Rattle.pagetab_engine.specs.Lines.{MayBeLeft, TracesBack}
use Rattle.pagetab_engine.specs.private.RunParts.{Follows}
use Rattle.pagetab_engine.proofs.engine.read_image.Given as goal

abbrev pub invariant-loop-statement : goal.invariant-loop-statement
invariant-loop-statement g l =
    let may = MayBeLeft g.R.Read.remaining in
    record {
      copy : HasCopy l.hierarchy;
      reached : ModeReaches l.hierarchy.mode l.hierarchy.frames.memory;
      mode : l.hierarchy.mode ≡ l.fn.hierarchy.mode;
      follows : TracesBack (may l.fn.lines) (may l.lines) (λ all left. Follows g.L.LevelCount.LEVELS l.places all l.fn.hierarchy left l.hierarchy);
    }

abbrev pub decreases-loop-statement : goal.decreases-loop-statement
decreases-loop-statement g l = 2 ^ 64 - l.lines.number
