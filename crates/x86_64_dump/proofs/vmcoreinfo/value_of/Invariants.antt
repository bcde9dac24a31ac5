use Rattle.std.proofs.Common.{◌≡◌, length}
use Rattle.x86_64_dump.specs.VmCoreInfo.{value_of}
use Rattle.x86_64_dump.proofs.vmcoreinfo.value_of.Given as goal

-- the value in the rest is that in the text
abbrev pub invariant-loop-end : goal.invariant-loop-end
invariant-loop-end l = value_of l.rest l.prefix ≡ value_of l.text l.prefix

abbrev pub decreases-loop-end : goal.decreases-loop-end
decreases-loop-end l = length l.rest
