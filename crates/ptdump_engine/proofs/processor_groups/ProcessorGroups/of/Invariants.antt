use Rattle.std.proofs.Common.{◌≡◌, ℕ, Bool, take}
use Rattle.std.specs.List.{flat_map}
use Rattle.ptdump_engine.specs.private.ProcessorGroups.{cpu_if, cpus_at}
use Rattle.ptdump_engine.proofs.processor_groups.ProcessorGroups.of.Given as goal

-- the map has the numbers of those so far
abbrev pub invariant-loop-processor : goal.invariant-loop-processor
invariant-loop-processor l = (k : ℕ × Bool) → cpus_at l.cpus k ≡ flat_map (cpu_if k) (take l.processor-index l.processors)
