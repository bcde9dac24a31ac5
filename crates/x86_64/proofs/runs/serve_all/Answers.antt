use Rattle.std.proofs.Common.{◌++◌, ◌+◌, ◌-◌, length, map, Some, subst, arith, rules}
use Rattle.x86_64_model.specs.Machine.{Machine, State, state_after}
use Rattle.x86_64.specs.Calls.{to_call}
use Rattle.x86_64.specs.FreeFrames.{all_back}
use Rattle.x86_64.specs.Runs.{machine_of, state_in, replies_to}
use Rattle.x86_64.proofs.FreeFrames.{free_at_first, free_next, free_at_last}
use Rattle.x86_64.proofs.Rounds.{told_next, rest_next, longer_next, items_first, items_next, still_next, told_last, rest_last, one_each, room_for_one, back_next, back_last, step_at, free_at, kept_then}
use Rattle.x86_64.proofs.runs.serve_all.Goals as goal

pub loop-call-init : goal.loop-call-init
loop-call-init g c = record {
  told = search rules;
  longer = search rules;
  still = search rules;
  rest = search rules;
  free = free_at_first (g.M.Tables.hierarchy c.args.mapper.now).layout (g.M.Tables.hierarchy c.args.mapper.now).memory (g.F.FrameAllocator.supply c.args.frames.now) _;
  room = search rules;
  keeps = search rules;
  items = items_first g.L.LevelCount.LEVELS g.K.Tokens.records c.args.replies.now.items (g.K.Tokens.items c.args.tokens.now);
  tokens = search rules;
}

pub loop-call-preserved : goal.loop-call-preserved
loop-call-preserved g c =
    let layout = (g.M.Tables.hierarchy c.args.mapper.now).layout in
    let calls = c.args.calls.now in
    let machine : Machine = machine_of layout g.F.FrameDeallocator.take_back in
    let start : State = state_in layout (g.M.Tables.hierarchy c.args.mapper.now).memory (g.F.FrameAllocator.supply c.args.frames.now) in
    let before = c.loop-call.invariant in
    let after = c.serve.ensures in
    let one = step_at layout _ before.keeps.layout g.F.FrameDeallocator.take_back _ (g.M.Tables.hierarchy c.serve.new.mapper).memory _ (g.F.FrameAllocator.supply c.serve.new.frames) (to_call g.L.LevelCount.LEVELS g.P5.LevelFiveFlags.bits c.call-item.result) c.serve.result after.step in
    record {
      told = told_next (to_call g.L.LevelCount.LEVELS g.P5.LevelFiveFlags.bits) machine _ _ _ calls c.loop-call.call-index c.call-item.result c.loop-call-test.true c.call-item.is one
          c.loop-call.replies.items c.push_reserved.new.self.items (map Some c.args.replies.now.items ++ replies_to (to_call g.L.LevelCount.LEVELS g.P5.LevelFiveFlags.bits) machine start calls) c.push_reserved.ensures.items before.told;
      rest = rest_next (to_call g.L.LevelCount.LEVELS g.P5.LevelFiveFlags.bits) machine _ _ c.serve.result calls c.loop-call.call-index c.call-item.result c.loop-call-test.true c.call-item.is one (state_after machine start (map (to_call g.L.LevelCount.LEVELS g.P5.LevelFiveFlags.bits) calls)) before.rest;
      free = free_next layout _ _ _ _ _ _ (all_back machine start (map (to_call g.L.LevelCount.LEVELS g.P5.LevelFiveFlags.bits) calls)) _ _ _ before.free
          (back_next (to_call g.L.LevelCount.LEVELS g.P5.LevelFiveFlags.bits) machine _ _ c.serve.result calls c.loop-call.call-index c.call-item.result c.loop-call-test.true c.call-item.is one)
          (free_at layout _ before.keeps.layout g.F.FrameDeallocator.take_back _ (g.M.Tables.hierarchy c.serve.new.mapper).memory _ (g.F.FrameAllocator.supply c.serve.new.frames) (to_call g.L.LevelCount.LEVELS g.P5.LevelFiveFlags.bits c.call-item.result) after.free);
      room = omega arith;
      longer = longer_next c.args.replies.now.items c.loop-call.replies.items c.push_reserved.new.self.items c.serve.result before.longer c.push_reserved.ensures.items;
      still = still_next c.args.replies.now.items c.loop-call.replies.items c.push_reserved.new.self.items c.serve.result before.longer c.push_reserved.ensures.items _ _ _ before.still after.still;
      items = items_next c.args.replies.now.items c.loop-call.replies.items c.push_reserved.new.self.items c.serve.result before.longer c.push_reserved.ensures.items g.L.LevelCount.LEVELS g.K.Tokens.records
          (g.K.Tokens.items c.args.tokens.now) (g.K.Tokens.items c.loop-call.tokens) (g.K.Tokens.items c.serve.new.tokens) after.items before.items;
      tokens = after.room (length calls - (c.loop-call.call-index + 1)) (subst (g.K.Tokens.has_room c.loop-call.tokens) (omega arith) before.tokens);
      keeps = kept_then (g.M.Tables.hierarchy c.args.mapper.now) _ (g.M.Tables.hierarchy c.serve.new.mapper) _ _ _ before.keeps after.keeps;
    }

pub serve-requires-clause-room : goal.serve-requires-clause-room
serve-requires-clause-room g c =
    let calls = c.args.calls.now in
    let tokens = c.loop-call.tokens in
    room_for_one (g.K.Tokens.has_room tokens) (g.K.Tokens.fewer tokens) (length calls - (c.loop-call.call-index + 1)) (subst (g.K.Tokens.has_room tokens) (omega arith) c.loop-call.invariant.tokens)

pub returns-clause-ran : goal.returns-clause-ran
returns-clause-ran g c =
    let layout = (g.M.Tables.hierarchy c.args.mapper.now).layout in
    let calls = c.args.calls.now in
    let machine : Machine = machine_of layout g.F.FrameDeallocator.take_back in
    let start : State = state_in layout (g.M.Tables.hierarchy c.args.mapper.now).memory (g.F.FrameAllocator.supply c.args.frames.now) in
    let before = c.args.replies.now.items in
    let items = c.loop-call.replies.items in
    let replies = told_last (to_call g.L.LevelCount.LEVELS g.P5.LevelFiveFlags.bits) machine _ calls c.loop-call.call-index (omega arith) items (map Some before ++ replies_to (to_call g.L.LevelCount.LEVELS g.P5.LevelFiveFlags.bits) machine start calls) c.loop-call.invariant.told in
    record {
      replies = replies;
      one_each = one_each (to_call g.L.LevelCount.LEVELS g.P5.LevelFiveFlags.bits) machine start calls before items replies;
      refused = c.loop-call.invariant.still;
      free = free_at_last layout _ _ _ _ (all_back machine start (map (to_call g.L.LevelCount.LEVELS g.P5.LevelFiveFlags.bits) calls)) _ c.loop-call.invariant.free (back_last (to_call g.L.LevelCount.LEVELS g.P5.LevelFiveFlags.bits) machine _ calls c.loop-call.call-index (omega arith));
      state = rest_last (to_call g.L.LevelCount.LEVELS g.P5.LevelFiveFlags.bits) machine _ calls c.loop-call.call-index (omega arith) (state_after machine start (map (to_call g.L.LevelCount.LEVELS g.P5.LevelFiveFlags.bits) calls)) c.loop-call.invariant.rest;
    }
