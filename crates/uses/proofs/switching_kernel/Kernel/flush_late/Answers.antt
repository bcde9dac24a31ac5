use Rattle.std.proofs.Common.{◌≡◌, None}
use Rattle.uses.proofs.KernelRuns.{runs_unreached}
use Rattle.uses.proofs.switching_kernel.Kernel.flush_late.Goals as goal

pub returns-clause-unreached : goal.returns-clause-unreached
returns-clause-unreached g c =
    let none : c.cache-2.new.self.late ≡ None = rw (c.cache-2.ensures.same, c.flush.ensures.flushed) in
    runs_unreached _ c.cache-2.ensures.runs none
