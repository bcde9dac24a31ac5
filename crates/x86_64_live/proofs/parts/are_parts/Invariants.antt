use Rattle.std.proofs.Common.{ℕ, ◌<◌, get_or}
use Rattle.x86_64_live.specs.Parts.{IsPartOf}
use Rattle.x86_64_live.proofs.parts.are_parts.Given as goal

-- the words so far map the first parts
abbrev pub invariant-loop-index : goal.invariant-loop-index
invariant-loop-index l = (j : ℕ) → j < l.index → IsPartOf l.level l.word l.entry j (get_or l.table j 0)
