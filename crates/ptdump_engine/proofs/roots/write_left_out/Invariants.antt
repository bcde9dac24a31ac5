use Rattle.std.proofs.Common.{take}
use Rattle.ptdump_engine.specs.Output.{Puts}
use Rattle.ptdump_engine.specs.Processors.{left_out_text}
use Rattle.ptdump_engine.proofs.roots.write_left_out.Given as goal

-- those so far are told
abbrev pub invariant-loop-processor : goal.invariant-loop-processor
invariant-loop-processor g l = Puts g.E.Destination.contents l.fn.notes l.notes (left_out_text (take l.processor-index l.processors))
