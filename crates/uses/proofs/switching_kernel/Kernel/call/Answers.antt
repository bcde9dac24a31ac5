use Rattle.std.proofs.Common.{lit<}
use Rattle.x86_64_model.specs.Lists.{In}
use Rattle.x86_64_model.specs.Pool.{serves_below}
use Rattle.x86_64_model.proofs.Lemmas.Lists.Members.{in_map}
use Rattle.x86_64.specs.Calls.{to_call, no_bits}
use Rattle.x86_64.proofs.AskedCalls.{is_call}
use Rattle.uses.specs.SwitchingKernel.{IsOwnCall, space_of, kernel_state}
use Rattle.uses.proofs.KernelCalls.{runs_called, runs_others}
use Rattle.uses.proofs.switching_kernel.Kernel.call.Goals as goal

pub call_on-requires : goal.call_on-requires
call_on-requires g c =
    let there : In c.cache.new.self.processes.items c.args.process.now = rw c.cache.ensures.same c.requires.process in
    c.cache.ensures.runs.are.spaces.fits (space_of c.args.process.now) (in_map space_of c.cache.new.self.processes.items c.args.process.now there)

pub returns-clause-runs : goal.returns-clause-runs
returns-clause-runs g c =
    let s = kernel_state g.T.TableMemory.tables g.C.SwitchingProcessor.state c.cache.new.self in
    let there : In c.cache.new.self.processes.items c.args.process.now = rw c.cache.ensures.same c.requires.process in
    let own : IsOwnCall c.cache.new.self.late c.args.process.now (to_call 4 no_bits c.args.call) = rw c.cache.ensures.same c.requires.own in
    let made = c.call_on.ensures in
    runs_called s c.cache.ensures.runs c.args.process.now there (to_call 4 no_bits c.args.call) c.call_on.result (is_call 4 (lit< tt) no_bits (λ flags. elim flags [ ]) 4 c.args.call) own
    (g.T.TableMemory.tables c.call_on.new.memory) c.call_on.new.frames.frames made.step made.free made.beside (serves_below c.call_on.new.frames.limit) made.same.1

pub returns-clause-step : goal.returns-clause-step
returns-clause-step g c = rw c.cache.ensures.same at c.call_on.ensures.step

pub returns-clause-others : goal.returns-clause-others
returns-clause-others g c =
    let s = kernel_state g.T.TableMemory.tables g.C.SwitchingProcessor.state c.cache.new.self in
    let there : In c.cache.new.self.processes.items c.args.process.now = rw c.cache.ensures.same c.requires.process in
    let own : IsOwnCall c.cache.new.self.late c.args.process.now (to_call 4 no_bits c.args.call) = rw c.cache.ensures.same c.requires.own in
    let made = c.call_on.ensures in
    rw c.cache.ensures.same at (runs_others s c.cache.ensures.runs c.args.process.now there (to_call 4 no_bits c.args.call) c.call_on.result (is_call 4 (lit< tt) no_bits (λ flags. elim flags [ ]) 4 c.args.call) own
    (g.T.TableMemory.tables c.call_on.new.memory) c.call_on.new.frames.frames made.step made.free made.beside)
