use Rattle.std.proofs.Common.{◌≡◌, ◌-◌, ◌%◌, subst, arith}
use Rattle.x86_64_page.proofs.Multiples.{rounded_down}
use Rattle.x86_64_page.proofs.frame.PhysFrame.containing_address.Goals as goal

pub invariant_of-result : goal.invariant_of-result
invariant_of-result g c =
    let number = c.as_u64-number.result in
    let size = c.SIZE.result in
    let down : c.new.result ≡ number - number % size = c.new.ensures in (
      omega (arith, down, c.as_u64-number.ensures),
      subst (λ z. c.new.result % z ≡ 0) c.SIZE.ensures (rw down (rounded_down number size)),
    )
