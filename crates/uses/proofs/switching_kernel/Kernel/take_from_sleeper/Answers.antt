use Rattle.uses.proofs.switching_kernel.Kernel.take_from_sleeper.Goals as goal

pub returns-clause-unreached : goal.returns-clause-unreached
returns-clause-unreached g c = rw (c.switch_to-3.ensures.same, c.switch_to-2.ensures.same, c.switch_to.ensures.same) at c.reclaim.ensures.unreached
