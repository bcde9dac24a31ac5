use Rattle.std.proofs.Common.{◌≡◌, ℕ, ◌+◌, ◌≤◌, length, vec_len, vec_capacity}
use Rattle.x86_64_model.specs.Lists.{In}
use Rattle.uses.specs.SwitchingKernel.{IsMappedOnce, FrameIsUnmapped, LessIsMapped, KernelRuns, kernel_state}
use Rattle.uses.proofs.switching_kernel.Kernel.reclaim.Given as goal

abbrev pub invariant-loop-page : goal.invariant-loop-page
invariant-loop-page g l =
    let tables = g.T.TableMemory.tables in
    let processes = l.fn.self.processes.items in
    record {
      runs : KernelRuns (kernel_state tables g.C.SwitchingProcessor.state l.self);
      same : l.self.processes ≡ l.fn.self.processes;
      less : LessIsMapped processes (tables l.fn.self.memory) (tables l.self.memory);
      freed : (frame : ℕ) → In l.freed.items frame → IsMappedOnce processes (tables l.fn.self.memory) frame → FrameIsUnmapped processes (tables l.self.memory) frame;
      room : vec_len l.freed + length l.pages ≤ vec_capacity l.freed + l.page-index;
    }
