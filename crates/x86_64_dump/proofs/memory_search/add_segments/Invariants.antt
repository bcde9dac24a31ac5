use Rattle.std.proofs.Common.{◌≡◌, ◌++◌, drop, length}
use Rattle.x86_64_dump.specs.KernelTexts.{texts_within}
use Rattle.x86_64_dump.proofs.memory_search.add_segments.Given as goal

-- the texts so far, followed by those in the segments that are left, are all the texts
abbrev pub invariant-loop-segment : goal.invariant-loop-segment
invariant-loop-segment g l =
    let file = g.S.ByteSource.bytes l.source in
    record {
      buffer : length l.buffer ≡ 1048576;
      told : g.S.ByteSource.IsKnown → l.texts.items ++ texts_within l.room file (drop l.segment-index l.segments) ≡ l.fn.texts.items ++ texts_within (length file) file l.segments;
    }
