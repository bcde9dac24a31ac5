use Rattle.std.proofs.Common.{arith}
use Rattle.x86_64_tables.proofs.phys_memory.places.run_of.Goals as goal

pub returns : goal.returns
returns c =
    let passed = c.loop-i-test.false in
    let fits = c.loop-i.invariant.fits in
    record {
      within = omega arith;
      follow = λ k h. c.loop-i.invariant.follow k (omega (arith, h, passed));
      fits = omega (arith, passed, fits);
    }
