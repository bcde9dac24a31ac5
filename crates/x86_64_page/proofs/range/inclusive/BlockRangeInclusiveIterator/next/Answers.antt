use Rattle.x86_64_page.specs.Blocks.{blocks_inclusive}
use Rattle.x86_64_page.proofs.Blocks.{front_step, goes_first}
use Rattle.x86_64_page.proofs.range.inclusive.BlockRangeInclusiveIterator.next.Goals as goal

pub returns-clause-steps : goal.returns-clause-steps
returns-clause-steps g c =
    let start = c.place-2.ensures in
    let end = c.place.ensures in
    front_step _ _ _ _ _ _ g.met.B.Block.known_size g.met.B.Block.known_limit (rw (← start.value) start.aligned) (rw (← end.value) end.aligned) (rw (← end.value) end.below)
    (rw (← start.value, ← end.value) c.if-place.false) (c.leave_at_front.ensures.raised, c.leave_at_front.ensures.lowered)

pub returns-clause-goes : goal.returns-clause-goes
returns-clause-goes g c =
    let left = returns-clause-steps g c in
    goes_first (λ r. blocks_inclusive g.B.Block.SIZE (g.B.Block.place r.start) (g.B.Block.place r.end)) _ _ _ _ left.0
