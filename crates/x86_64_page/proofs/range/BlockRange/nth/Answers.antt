use Rattle.std.proofs.Common.{refl, arith}
use Rattle.x86_64_page.proofs.Blocks.{nth_known, item, item_past, front-all, front-none}
use Rattle.x86_64_page.proofs.range.BlockRange.nth.Goals as goal
use Rattle.x86_64_page.proofs.range.BlockRange.nth.Goals.{then-start-end, else-start-end}

pub overflow_mul-place : goal.overflow_mul-place
overflow_mul-place g c =
    let nth = nth_known _ _ _ _ _ _ _ g.met.B.Block.known_size c.place-start.ensures.value c.place-start.ensures.aligned c.place-end.ensures.value c.place-end.ensures.aligned c.len.ensures c.if-n-len.true in
    rw c.SIZE.ensures (omega (arith, nth.within, c.place-end.type_inv))

pub overflow_add-place : goal.overflow_add-place
overflow_add-place g c =
    let nth = nth_known _ _ _ _ _ _ _ g.met.B.Block.known_size c.place-start.ensures.value c.place-start.ensures.aligned c.place-end.ensures.value c.place-end.ensures.aligned c.len.ensures c.if-n-len.true in
    rw c.SIZE.ensures (omega (arith, nth.within, c.place-end.type_inv))

pub overflow_add-place-then-n-len : goal.overflow_add-place-then-n-len
overflow_add-place-then-n-len g c =
    let nth = nth_known _ _ _ _ _ _ _ g.met.B.Block.known_size c.place-start.ensures.value c.place-start.ensures.aligned c.place-end.ensures.value c.place-end.ensures.aligned c.len.ensures c.if-n-len.true in
    rw (c.SIZE.ensures, c.SIZE-then-n-len.ensures) (omega (arith, nth.within, c.place-end.type_inv))

pub at-self-requires-clause-below : goal.at-self-requires-clause-below
at-self-requires-clause-below g c =
    let nth = nth_known _ _ _ _ _ _ _ g.met.B.Block.known_size c.place-start.ensures.value c.place-start.ensures.aligned c.place-end.ensures.value c.place-end.ensures.aligned c.len.ensures c.if-n-len.true in
    rw (c.SIZE.ensures, c.SIZE-then-n-len.ensures) (omega (arith, nth.within, c.place-end.ensures.below))

pub at-requires-clause-below : goal.at-requires-clause-below
at-requires-clause-below g c =
    let nth = nth_known _ _ _ _ _ _ _ g.met.B.Block.known_size c.place-start.ensures.value c.place-start.ensures.aligned c.place-end.ensures.value c.place-end.ensures.aligned c.len.ensures c.if-n-len.true in
    rw c.SIZE.ensures (omega (arith, nth.within, c.place-end.ensures.below))

pub returns-then-n-len-clause-item : goal.returns-then-n-len-clause-item
returns-then-n-len-clause-item g c =
    item _ _ _ _ _ (rw c.len.ensures at c.if-n-len.true) (rw (c.at.ensures, c.SIZE.ensures, c.place-start.ensures.value) refl)

pub returns-clause-item : goal.returns-clause-item
returns-clause-item g c =
    item_past _ _ _ _ (rw c.len.ensures at c.if-n-len.false)

pub returns-clause-ends : goal.returns-clause-ends
returns-clause-ends g c =
    let start = c.place-start.ensures in
    let end = c.place-end.ensures in
    let past = rw c.len.ensures at c.if-n-len.false in
    elim c.if-start-end.branch [
      | then-start-end w ↦ rw w.self-is (front-all _ _ _ _ g.met.B.Block.known_size (rw (← start.value) start.aligned) (rw (← end.value) end.aligned) past (rw (← start.value, ← end.value) w.if-start-end.true))
      | else-start-end w ↦ rw w.self-is (front-none _ _ _ _ g.met.B.Block.known_size (rw (← start.value, ← end.value) w.if-start-end.false))
    ]
