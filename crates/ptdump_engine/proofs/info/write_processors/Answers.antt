use Rattle.std.proofs.Common.{subst}
use Rattle.std.specs.List.{flat_map}
use Rattle.ptdump_engine.specs.Info.{known_registers, processor_line}
use Rattle.ptdump_json.specs.Paging.{registers_of}
use Rattle.ptdump_engine.specs.Output.{Puts}
use Rattle.ptdump_engine.specs.private.Puts.{puts_nothing}
use Rattle.ptdump_engine.proofs.Listed.{all_placed, puts_placed}
use Rattle.ptdump_engine.proofs.info.write_processors.Goals as goal

pub loop-cpu-init : goal.loop-cpu-init
loop-cpu-init g c = λ known. puts_nothing g.W.Destination.contents c.args.output.now

pub loop-cpu-preserved : goal.loop-cpu-preserved
loop-cpu-preserved g c = λ known.
    puts_placed g.W.Destination.contents (λ (cpu, note). processor_line c.args.form cpu (known_registers (registers_of (g.S.ByteSource.bytes c.args.dump.now.source) note)))
    c.args.output.now c.loop-cpu.output c.write_noted.new.output c.args.notes.now c.loop-cpu.cpu _ c.loop-cpu-test.true
    (c.loop-cpu.invariant known) (c.in_ok-write_noted.ensures.text known)

pub returns-clause-text : goal.returns-clause-text
returns-clause-text g c = λ known.
    subst (λ notes. Puts g.W.Destination.contents c.args.output.now c.loop-cpu.output
    (flat_map (λ (cpu, note). processor_line c.args.form cpu (known_registers (registers_of (g.S.ByteSource.bytes c.args.dump.now.source) note))) notes))
    (all_placed c.args.notes.now c.loop-cpu.cpu c.loop-cpu-test.false) (c.loop-cpu.invariant known)
