use Rattle.x86_64_dump.proofs.Headers.{pushed_one}
use Rattle.x86_64_dump.proofs.formats.elf.push_segments.Goals as goal

pub loop-i-preserved : goal.loop-i-preserved
loop-i-preserved c = pushed_one c.args.entries.now c.loop-i.i c.args.segments.now.items c.loop-i.segments.items c.push.new.self.items c.segment_in.result c.loop-i.invariant c.segment_in.ensures c.in_ok-push.ensures.items
