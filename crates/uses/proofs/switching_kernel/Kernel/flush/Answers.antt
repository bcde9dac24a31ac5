use Rattle.uses.specs.SwitchingKernel.{kernel_state}
use Rattle.uses.proofs.KernelRuns.{runs_flushed}
use Rattle.uses.proofs.switching_kernel.Kernel.flush.Goals as goal

pub returns-clause-runs : goal.returns-clause-runs
returns-clause-runs g c = runs_flushed (kernel_state g.T.TableMemory.tables g.C.SwitchingProcessor.state c.args.self.now) _ _ c.in-Some.pcid
    c.requires c.in-Some.is c.flush_pcid.ensures c.flush_pcid-2.ensures
