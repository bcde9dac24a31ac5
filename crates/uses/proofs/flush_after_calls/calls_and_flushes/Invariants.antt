use Rattle.std.proofs.Common.{◌≡◌, drop, map}
use Rattle.x86_64_model.specs.Machine.{Machine, State, state_after}
use Rattle.x86_64.specs.Calls.{to_call}
use Rattle.x86_64.specs.Runs.{machine_of, state_in}
use Rattle.uses.specs.InUse.{InUse}
use Rattle.uses.proofs.flush_after_calls.calls_and_flushes.Given as goal

abbrev pub invariant-loop-call : goal.invariant-loop-call
invariant-loop-call g l =
    let layout = (g.M.Tables.hierarchy l.fn.mapper).layout in
    let machine : Machine = machine_of layout g.F.FrameDeallocator.take_back in
    let start : State = state_in layout (g.M.Tables.hierarchy l.fn.mapper).memory (g.F.FrameAllocator.supply l.fn.frames) in
    let h = g.M.Tables.hierarchy l.mapper in
    let pool = g.F.FrameAllocator.supply l.frames in
    let now : State = state_in layout h.memory pool in
    record {
      rest : state_after machine now (map (to_call g.L.LevelCount.LEVELS g.P5.LevelFiveFlags.bits) (drop l.call-index l.calls)) ≡ state_after machine start (map (to_call g.L.LevelCount.LEVELS g.P5.LevelFiveFlags.bits) l.calls);
      layout : h.layout ≡ layout;
      in_use : InUse h (record { frames = pool; serves = g.F.FrameKeeper.serves l.frames; take_back = g.F.FrameDeallocator.take_back }) (g.C.Processor.cached l.processor);
    }
