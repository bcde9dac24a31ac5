use Rattle.uses.proofs.KernelRuns.{runs_unreached}
use Rattle.uses.proofs.switching_kernel.unmapped_frames_are_unreached.Goals as goal

pub returns : goal.returns
returns c = runs_unreached
