use Rattle.ptdump_engine.specs.Info.{memory_line}
use Rattle.ptdump_engine.specs.private.Puts.{puts_nothing}
use Rattle.ptdump_engine.proofs.Listed.{puts_more}
use Rattle.ptdump_engine.proofs.info.write_memory.Goals as goal

pub loop-segment-init : goal.loop-segment-init
loop-segment-init g c = puts_nothing g.W.Destination.contents c.args.output.now

pub loop-segment-preserved : goal.loop-segment-preserved
loop-segment-preserved g c =
    puts_more g.W.Destination.contents (memory_line c.args.form) c.args.output.now c.loop-segment.output c.write_segment.new.output c.args.segments.now c.loop-segment.segment-index _ c.loop-segment-test.true
    c.loop-segment.invariant c.in_ok-write_segment.ensures
