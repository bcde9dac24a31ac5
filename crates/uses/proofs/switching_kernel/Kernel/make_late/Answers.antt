use Rattle.std.proofs.Common.{◌≡◌, Some, None}
use Rattle.uses.specs.SwitchingKernel.{kernel_state}
use Rattle.uses.proofs.KernelRuns.{runs_late}
use Rattle.uses.proofs.switching_kernel.Kernel.make_late.Goals as goal

pub returns-clause-runs : goal.returns-clause-runs
returns-clause-runs g c =
    let none : c.flush_late.new.self.late ≡ None = rw c.flush_late.ensures.flushed in
    runs_late (kernel_state g.T.TableMemory.tables g.C.SwitchingProcessor.state c.flush_late.new.self) (Some c.args.process.now.pcid) c.flush_late.ensures.runs none
