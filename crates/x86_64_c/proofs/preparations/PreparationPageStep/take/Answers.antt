use Rattle.x86_64_c.proofs.preparations.PreparationPageStep.take.Goals as goal

pub returns-clause-does : goal.returns-clause-does
returns-clause-does g c = (c.with_pool.ensures.does, c.with_pool.ensures.unchanged)
