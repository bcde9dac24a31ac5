use Rattle.x86_64_access.proofs.memory_unit.Request.+mark_from.Given as goal

abbrev pub decreases-mark_from : goal.decreases-mark_from
decreases-mark_from g l = l.level
