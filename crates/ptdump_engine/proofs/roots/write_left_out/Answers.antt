use Rattle.std.proofs.Common.{subst}
use Rattle.ptdump_engine.specs.Output.{Puts}
use Rattle.ptdump_engine.specs.Processors.{left_out_line}
use Rattle.ptdump_engine.specs.private.Puts.{puts_nothing}
use Rattle.ptdump_engine.proofs.Listed.{puts_more}
use Rattle.ptdump_engine.proofs.roots.write_left_out.Goals as goal

pub loop-processor-init : goal.loop-processor-init
loop-processor-init g c = puts_nothing g.E.Destination.contents c.args.notes.now

pub loop-processor-preserved : goal.loop-processor-preserved
loop-processor-preserved g c =
    let contents = g.E.Destination.contents in
    let p = c.processor-item.result in
    puts_more contents left_out_line c.args.notes.now c.loop-processor.notes c.write_mode.new.notes c.args.processors.now c.loop-processor.processor-index p
    c.loop-processor-test.true c.loop-processor.invariant
    (subst (λ q. Puts contents c.loop-processor.notes c.write_mode.new.notes (left_out_line q)) c.processor-item.is c.in_ok-write_mode.ensures)
