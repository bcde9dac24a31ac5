use Rattle.std.proofs.Common.{refl, arith}
use Rattle.x86_64_tables.proofs.phys_memory.places.is_increasing.Goals as goal

pub returns : goal.returns
returns c = (λ _ k h. c.loop-i.invariant k (omega (arith, h, c.loop-i-test.false)), λ _. refl)
