use Rattle.std.proofs.Common.{◌∙◌, map, arith}
use Rattle.x86_64_model.specs.Machine.{Machine, State, state_after}
use Rattle.x86_64.specs.Calls.{to_call}
use Rattle.x86_64.specs.Runs.{machine_of, state_in}
use Rattle.x86_64.proofs.Processors.{flushed_accesses_go}
use Rattle.x86_64.proofs.Rounds.{rest_next, rest_last, step_at}
use Rattle.uses.proofs.flush_after_calls.calls_and_flushes.Goals as goal

pub loop-call-preserved : goal.loop-call-preserved
loop-call-preserved g c =
    let layout = (g.M.Tables.hierarchy c.args.mapper.now).layout in
    let calls = c.args.calls.now in
    let levels = g.L.LevelCount.LEVELS in
    let bits = g.P5.LevelFiveFlags.bits in
    let machine : Machine = machine_of layout g.F.FrameDeallocator.take_back in
    let start : State = state_in layout (g.M.Tables.hierarchy c.args.mapper.now).memory (g.F.FrameAllocator.supply c.args.frames.now) in
    let before = c.loop-call.invariant in
    let made = c.call_and_flush in
    let next = g.M.Tables.hierarchy made.new.mapper in
    let rest = g.F.FrameAllocator.supply made.new.frames in
    let one = step_at layout _ before.layout g.F.FrameDeallocator.take_back _ next.memory _ rest (to_call levels bits c.call-item.result) made.result made.ensures.step in
    record {
      rest = rest_next (to_call levels bits) machine _ _ made.result calls c.loop-call.call-index c.call-item.result c.loop-call-test.true c.call-item.is one (state_after machine start (map (to_call levels bits) calls)) before.rest;
      layout = made.ensures.keeps.layout ∙ before.layout;
      in_use = made.ensures.again;
    }

pub returns-clause-state : goal.returns-clause-state
returns-clause-state g c =
    let layout = (g.M.Tables.hierarchy c.args.mapper.now).layout in
    let calls = c.args.calls.now in
    let levels = g.L.LevelCount.LEVELS in
    let bits = g.P5.LevelFiveFlags.bits in
    let machine : Machine = machine_of layout g.F.FrameDeallocator.take_back in
    let start : State = state_in layout (g.M.Tables.hierarchy c.args.mapper.now).memory (g.F.FrameAllocator.supply c.args.frames.now) in
    rest_last (to_call levels bits) machine _ calls c.loop-call.call-index (omega arith) (state_after machine start (map (to_call levels bits) calls)) c.loop-call.invariant.rest

pub returns-clause-accesses : goal.returns-clause-accesses
returns-clause-accesses g c =
    let h = g.M.Tables.hierarchy c.loop-call.mapper in
    flushed_accesses_go h.layout g.F.FrameDeallocator.take_back (g.F.FrameKeeper.serves c.loop-call.frames) h.memory (g.F.FrameAllocator.supply c.loop-call.frames) (g.C.Processor.cached c.loop-call.processor) c.loop-call.invariant.in_use.arises
