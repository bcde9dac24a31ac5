use Rattle.ptdump_engine.specs.Program.{raw_text}
use Rattle.ptdump_json.specs.Walks.{line}
use Rattle.ptdump_engine.specs.private.Puts.{puts_nothing}
use Rattle.ptdump_engine.proofs.Listed.{puts_more}
use Rattle.ptdump_engine.proofs.opening.write_raw.Goals as goal

pub loop-segment-init : goal.loop-segment-init
loop-segment-init g c = puts_nothing g.E.Destination.contents c.args.notes.now

pub loop-segment-preserved : goal.loop-segment-preserved
loop-segment-preserved g c =
    puts_more g.E.Destination.contents (λ segment. line (raw_text segment)) c.args.notes.now c.loop-segment.notes c.write_range.new.notes c.args.segments.now c.loop-segment.segment-index _ c.loop-segment-test.true
    c.loop-segment.invariant c.in_ok-write_range.ensures
