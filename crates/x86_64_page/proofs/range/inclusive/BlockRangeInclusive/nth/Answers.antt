use Rattle.std.proofs.Common.{refl, arith}
use Rattle.x86_64_page.proofs.Blocks.{nth_known_inclusive, item, item_past, front_inclusive-some, front_inclusive-all, front_inclusive-none}
use Rattle.x86_64_page.proofs.range.inclusive.BlockRangeInclusive.nth.Goals as goal
use Rattle.x86_64_page.proofs.range.inclusive.BlockRangeInclusive.nth.Goals.{then-start-end, else-start-end}

pub overflow_mul-n : goal.overflow_mul-n
overflow_mul-n g c =
    let nth = nth_known_inclusive _ _ _ _ _ _ _ g.met.B.Block.known_size c.place-start.ensures.value c.place-start.ensures.aligned c.place-end.ensures.value c.place-end.ensures.aligned c.len.ensures c.if-n-len.true in
    rw c.SIZE.ensures (omega (arith, nth.within, c.place-end.type_inv))

pub overflow_add-start : goal.overflow_add-start
overflow_add-start g c =
    let nth = nth_known_inclusive _ _ _ _ _ _ _ g.met.B.Block.known_size c.place-start.ensures.value c.place-start.ensures.aligned c.place-end.ensures.value c.place-end.ensures.aligned c.len.ensures c.if-n-len.true in
    rw c.SIZE.ensures (omega (arith, nth.within, c.place-end.type_inv))

pub at-block-requires-clause-below : goal.at-block-requires-clause-below
at-block-requires-clause-below g c =
    let nth = nth_known_inclusive _ _ _ _ _ _ _ g.met.B.Block.known_size c.place-start.ensures.value c.place-start.ensures.aligned c.place-end.ensures.value c.place-end.ensures.aligned c.len.ensures c.if-n-len.true in
    rw c.SIZE.ensures (omega (arith, nth.within, c.place-end.ensures.below))

pub returns-then-n-len-clause-item : goal.returns-then-n-len-clause-item
returns-then-n-len-clause-item g c =
    item _ _ _ _ _ (rw c.len.ensures at c.if-n-len.true) (rw (c.at-block.ensures, c.SIZE.ensures, c.place-start.ensures.value) refl)

pub returns-then-n-len-clause-ends : goal.returns-then-n-len-clause-ends
returns-then-n-len-clause-ends g c =
    let start = c.place-start.ensures in
    let end = c.place-end.ensures in
    front_inclusive-some _ _ _ _ _ _ _ _ g.met.B.Block.known_size g.met.B.Block.known_limit (rw (← start.value) start.aligned) (rw (← end.value) end.aligned) (rw (← end.value) end.below)
    (rw c.len.ensures at c.if-n-len.true) (rw (c.at-block.ensures, c.SIZE.ensures, start.value) refl)
    (c.leave_at_front.ensures.raised, c.leave_at_front.ensures.lowered)

pub returns-clause-item : goal.returns-clause-item
returns-clause-item g c =
    item_past _ _ _ _ (rw c.len.ensures at c.if-n-len.false)

pub returns-clause-ends : goal.returns-clause-ends
returns-clause-ends g c =
    let start = c.place-start.ensures in
    let end = c.place-end.ensures in
    let past = rw c.len.ensures at c.if-n-len.false in
    elim c.if-start-end.branch [
      | then-start-end w ↦ rw w.self-is (let left = w.leave_at_front-then-start-end.ensures in front_inclusive-all _ _ _ _ _ _ _ g.met.B.Block.known_size (rw (← start.value) start.aligned) (rw (← end.value) end.aligned) (rw (← start.value, ← end.value) w.if-start-end.true) past (left.raised, left.lowered))
      | else-start-end w ↦ rw w.self-is (front_inclusive-none _ _ _ _ _ g.met.B.Block.known_size (rw (← start.value) start.aligned) (rw (← end.value) end.aligned) (rw (← start.value) start.below) (rw (← start.value, ← end.value) w.if-start-end.false))
    ]
