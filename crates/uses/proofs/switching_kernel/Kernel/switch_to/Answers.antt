use Rattle.x86_64_model.specs.Lists.{In}
use Rattle.uses.proofs.KernelRuns.{ran_switched}
use Rattle.uses.proofs.switching_kernel.Kernel.switch_to.Goals as goal

pub returns-in-First-clause-runs : goal.returns-in-First-clause-runs
returns-in-First-clause-runs g c =
    let there : In c.cache.new.self.processes.items c.args.process.now = rw c.cache.ensures.same c.requires.process in
    let runs = c.cache.ensures.runs in
    record {
      are = runs.are;
      first = ran_switched _ _ _ runs.are.own_pcids c.args.process.now there _ _ _ c.switch.ensures runs.first;
      second = runs.second;
    }

pub returns-in-Second-clause-runs : goal.returns-in-Second-clause-runs
returns-in-Second-clause-runs g c =
    let there : In c.cache.new.self.processes.items c.args.process.now = rw c.cache.ensures.same c.requires.process in
    let runs = c.cache.ensures.runs in
    record {
      are = runs.are;
      first = runs.first;
      second = ran_switched _ _ _ runs.are.own_pcids c.args.process.now there _ _ _ c.switch-in-Second.ensures runs.second;
    }
