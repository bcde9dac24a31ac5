use Rattle.std.proofs.Common.{◌≡◌, filter, take}
use Rattle.ptdump_engine.specs.private.ProcessorGroups.{is_first_in}
use Rattle.ptdump_engine.proofs.processor_groups.ProcessorGroups.firsts.Given as goal

-- the first processors among those so far
abbrev pub invariant-loop-processor : goal.invariant-loop-processor
invariant-loop-processor l = l.firsts.items ≡ filter (is_first_in l.self) (take l.processor-index l.self.processors.now)
