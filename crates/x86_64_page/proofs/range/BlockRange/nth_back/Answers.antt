use Rattle.std.proofs.Common.{arith}
use Rattle.x86_64_page.proofs.Blocks.{nth_known, item_back, item_back_past, back-all, back-none}
use Rattle.x86_64_page.proofs.range.BlockRange.nth_back.Goals as goal
use Rattle.x86_64_page.proofs.range.BlockRange.nth_back.Goals.{then-start-end, else-start-end}

pub overflow_mul-n : goal.overflow_mul-n
overflow_mul-n g c =
    let nth = nth_known _ _ _ _ _ _ _ g.met.B.Block.known_size c.place-start.ensures.value c.place-start.ensures.aligned c.place-end.ensures.value c.place-end.ensures.aligned c.len.ensures c.if-n-len.true in
    rw c.SIZE.ensures (omega (arith, nth.within, c.place-end.type_inv))

pub overflow_sub-end : goal.overflow_sub-end
overflow_sub-end g c =
    let nth = nth_known _ _ _ _ _ _ _ g.met.B.Block.known_size c.place-start.ensures.value c.place-start.ensures.aligned c.place-end.ensures.value c.place-end.ensures.aligned c.len.ensures c.if-n-len.true in
    rw c.SIZE.ensures (omega (arith, nth.within))

pub overflow_sub-end-then-n-len : goal.overflow_sub-end-then-n-len
overflow_sub-end-then-n-len g c =
    let nth = nth_known _ _ _ _ _ _ _ g.met.B.Block.known_size c.place-start.ensures.value c.place-start.ensures.aligned c.place-end.ensures.value c.place-end.ensures.aligned c.len.ensures c.if-n-len.true in
    rw (c.SIZE.ensures, c.SIZE-then-n-len.ensures) (omega (arith, nth.within))

pub returns-then-n-len-clause-item : goal.returns-then-n-len-clause-item
returns-then-n-len-clause-item g c =
    let start = c.place-start.ensures in
    let end = c.place-end.ensures in
    let nth = nth_known _ _ _ _ _ _ _ g.met.B.Block.known_size c.place-start.ensures.value c.place-start.ensures.aligned c.place-end.ensures.value c.place-end.ensures.aligned c.len.ensures c.if-n-len.true in
    let left = rw (c.SIZE.ensures, c.SIZE-then-n-len.ensures) at c.at-self.ensures in
    item_back _ _ _ _ _ g.met.B.Block.known_size (rw (← start.value) start.aligned) (rw (← end.value) end.aligned) (rw c.len.ensures at c.if-n-len.true) (omega (arith, left, nth.within, end.value))

pub returns-clause-item : goal.returns-clause-item
returns-clause-item g c =
    item_back_past _ _ _ _ (rw c.len.ensures at c.if-n-len.false)

pub returns-clause-ends : goal.returns-clause-ends
returns-clause-ends g c =
    let start = c.place-start.ensures in
    let end = c.place-end.ensures in
    let past = rw c.len.ensures at c.if-n-len.false in
    elim c.if-start-end.branch [
      | then-start-end w ↦ rw w.self-is (back-all _ _ _ _ g.met.B.Block.known_size (rw (← start.value) start.aligned) (rw (← end.value) end.aligned) past (rw (← start.value, ← end.value) w.if-start-end.true))
      | else-start-end w ↦ rw w.self-is (back-none _ _ _ _ g.met.B.Block.known_size (rw (← start.value, ← end.value) w.if-start-end.false))
    ]
