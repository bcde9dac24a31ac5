use Rattle.std.proofs.Common.{take}
use Rattle.std.specs.List.{enumerate_from, flat_map}
use Rattle.ptdump_engine.specs.Info.{known_registers, processor_line}
use Rattle.ptdump_json.specs.Paging.{registers_of}
use Rattle.ptdump_engine.specs.Output.{Puts}
use Rattle.ptdump_engine.proofs.info.write_processors.Given as goal

-- the processors so far are written
abbrev pub invariant-loop-cpu : goal.invariant-loop-cpu
invariant-loop-cpu g l = g.S.ByteSource.IsKnown → Puts g.W.Destination.contents l.fn.output l.output
    (flat_map (λ (cpu, note). processor_line l.form cpu (known_registers (registers_of (g.S.ByteSource.bytes l.dump.source) note))) (take l.cpu (enumerate_from 0 l.notes)))
