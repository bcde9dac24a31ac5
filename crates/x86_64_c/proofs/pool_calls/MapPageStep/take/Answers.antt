use Rattle.x86_64_c.proofs.pool_calls.MapPageStep.take.Goals as goal

pub returns-clause-does : goal.returns-clause-does
returns-clause-does g c = (rw c.in_ok-map.ensures.call at c.with_pool.ensures.does, c.with_pool.ensures.unchanged)
