use Rattle.std.proofs.Common.{◌+◌, ℕ, length}
use Rattle.x86_64_dump.proofs.Merging.{IsMergedTo}
use Rattle.x86_64_dump.proofs.search.merging.merge.Given as goal

-- all stretches that begin before some address are merged
abbrev pub invariant-loop-from : goal.invariant-loop-from
invariant-loop-from l = (address : ℕ) × IsMergedTo address l.fn.front l.fn.back l.merged.items l.front.rest.now l.back.rest.now l.front.place l.back.place

-- the number of stretches that are left
abbrev pub decreases-loop-from : goal.decreases-loop-from
decreases-loop-from l = length l.front.rest.now + length l.back.rest.now
