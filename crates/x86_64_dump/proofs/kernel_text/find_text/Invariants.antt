use Rattle.std.proofs.Common.{◌≡◌}
use Rattle.x86_64_dump.proofs.KernelTexts.{begins_from}
use Rattle.x86_64_dump.proofs.kernel_text.find_text.Given as goal

-- the text begins nowhere so far
abbrev pub invariant-loop-at : goal.invariant-loop-at
invariant-loop-at l = begins_from l.page l.at ≡ begins_from l.page 0
