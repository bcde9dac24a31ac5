use Rattle.std.proofs.Common.{arith}
use Rattle.std.proofs.Math.Nat.{le-div_iff_mul-le}
use Rattle.x86_64_page.proofs.Sums.{size_is_positive}
use Rattle.x86_64_page.proofs.frame.PhysFrame.try_from_pfn.Goals as goal

pub returns-else-pfn-SIZE-clause-below : goal.returns-else-pfn-SIZE-clause-below
returns-else-pfn-SIZE-clause-below g c =
    let positive = size_is_positive g.S.PageSize.SIZE g.S.PageSize.LEVEL g.S.PageSize.size in
    let over = rw c.SIZE.ensures at c.if-pfn-SIZE.false in
    let within = le-div_iff_mul-le {x = c.args.pfn} {y = 0x000f_ffff_ffff_ffff} positive in
    (λ no. absurd cc, λ below. absurd (omega (arith, over, within.1 (omega (arith, below)))))
