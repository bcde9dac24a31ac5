use Rattle.std.proofs.Common.{take}
use Rattle.std.specs.List.{enumerate_from, flat_map}
use Rattle.ptdump_engine.specs.Output.{Puts}
use Rattle.ptdump_engine.specs.private.Roots.{number_at}
use Rattle.ptdump_engine.proofs.roots.write_numbers.Given as goal

-- the numbers so far are written
abbrev pub invariant-loop-index : goal.invariant-loop-index
invariant-loop-index g l = Puts g.W.Destination.contents l.fn.output l.output (flat_map (λ (i, n). number_at i n) (take l.index (enumerate_from 0 l.numbers)))
