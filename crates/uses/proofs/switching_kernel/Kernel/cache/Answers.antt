use Rattle.uses.proofs.KernelRuns.{ran_cached}
use Rattle.uses.proofs.switching_kernel.Kernel.cache.Goals as goal

pub returns-clause-runs : goal.returns-clause-runs
returns-clause-runs g c = record {
  are = c.requires.are;
  first = ran_cached _ _ _ _ _ _ c.cache.ensures c.requires.first;
  second = ran_cached _ _ _ _ _ _ c.cache-2.ensures c.requires.second;
}
