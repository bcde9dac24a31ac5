use Rattle.x86_64_page.specs.Blocks.{blocks_inclusive}
use Rattle.x86_64_page.proofs.Blocks.{back_step, goes_last}
use Rattle.x86_64_page.proofs.range.inclusive.BlockRangeInclusiveDoubleEndedIterator.next_back.Goals as goal

pub returns-clause-steps : goal.returns-clause-steps
returns-clause-steps g c =
    let start = c.place-2.ensures in
    let end = c.place.ensures in
    back_step _ _ _ _ _ g.met.B.Block.known_size (rw (← start.value) start.aligned) (rw (← end.value) end.aligned) (rw (← start.value, ← end.value) c.if-place.false)
    (c.leave_at_back.ensures.lowered, c.leave_at_back.ensures.raised)

pub returns-clause-goes : goal.returns-clause-goes
returns-clause-goes g c =
    let left = returns-clause-steps g c in
    goes_last (λ r. blocks_inclusive g.B.Block.SIZE (g.B.Block.place r.start) (g.B.Block.place r.end)) _ _ _ _ left.0
