use Rattle.std.proofs.Common.{◌≡◌}
use Rattle.x86_64_tables.proofs.StepsRead.{HaveRead}
use Rattle.x86_64_mappings.specs.WalkEntries.{Writes, end_of}
use Rattle.x86_64_mappings.proofs.walk_entries.read_entries.Given as goal

-- the words so far are written and counted, and the last of them says why a walk may end
abbrev pub invariant-loop-step : goal.invariant-loop-step
invariant-loop-step g l = HaveRead l.initial.step-iterator l.yielded l.step-iterator l.rights
    × Writes l.yielded l.initial.entries l.entries l.count × (l.end ≡ end_of l.yielded)
