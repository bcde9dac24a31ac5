use Rattle.std.proofs.Common.{◌≡◌, drop}
use Rattle.x86_64_dump.specs.Dump.{words_of_dump}
use Rattle.x86_64_dump.specs.Opened.{opened}
use Rattle.ptdump_engine.specs.Program.{first_failure}
use Rattle.ptdump_engine.proofs.roots.first_failure.Given as goal

-- the first failure is that of the processors to come
abbrev pub invariant-loop-processor : goal.invariant-loop-processor
invariant-loop-processor g l = g.S.ByteSource.IsKnown → first_failure l.request (words_of_dump (opened g.S.ByteSource.bytes l.dump)) l.processors
    ≡ first_failure l.request (words_of_dump (opened g.S.ByteSource.bytes l.dump)) (drop l.processor-index l.processors)
