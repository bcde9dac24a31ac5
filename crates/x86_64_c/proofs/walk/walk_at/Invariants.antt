use Rattle.std.proofs.Common.{◌≡◌, None}
use Rattle.std.specs.List.{last_or}
use Rattle.x86_64_tables.proofs.StepsRead.{HaveRead}
use Rattle.x86_64_c.proofs.walk.walk_at.Given as goal

-- the words so far are read, and the last of them is kept
abbrev pub invariant-loop-step : goal.invariant-loop-step
invariant-loop-step g l = HaveRead l.initial.step-iterator l.yielded l.step-iterator l.rights × (l.last ≡ last_or None l.yielded)
