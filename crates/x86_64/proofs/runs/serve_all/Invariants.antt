use Rattle.std.proofs.Common.{◌≡◌, ◌+◌, ◌-◌, ◌≤◌, ◌++◌, length, map, drop, Some, vec_len}
use Rattle.std.specs.Vec.{vec_capacity}
use Rattle.x86_64_model.specs.Machine.{Machine, State, state_after}
use Rattle.x86_64.specs.Calls.{to_call}
use Rattle.x86_64.specs.Flushes.{items_told}
use Rattle.x86_64.specs.FreeFrames.{all_back}
use Rattle.x86_64.specs.private.Served.{recorded}
use Rattle.x86_64.specs.Runs.{machine_of, state_in, Keeps, replies_to, appended, UnchangedIfRefused}
use Rattle.x86_64.proofs.FreeFrames.{FreeSoFar}
use Rattle.x86_64.proofs.runs.serve_all.Given as goal

abbrev pub invariant-loop-call : goal.invariant-loop-call
invariant-loop-call g l =
    let layout = (g.M.Tables.hierarchy l.fn.mapper).layout in
    let machine : Machine = machine_of layout g.F.FrameDeallocator.take_back in
    let start : State = state_in layout (g.M.Tables.hierarchy l.fn.mapper).memory (g.F.FrameAllocator.supply l.fn.frames) in
    let now : State = state_in layout (g.M.Tables.hierarchy l.mapper).memory (g.F.FrameAllocator.supply l.frames) in
    record {
      told : map Some l.replies.items ++ replies_to (to_call g.L.LevelCount.LEVELS g.P5.LevelFiveFlags.bits) machine now (drop l.call-index l.calls) ≡ map Some l.fn.replies.items ++ replies_to (to_call g.L.LevelCount.LEVELS g.P5.LevelFiveFlags.bits) machine start l.calls;
      longer : length l.fn.replies.items ≤ length l.replies.items;
      still : UnchangedIfRefused (appended l.fn.replies.items l.replies.items) (g.M.Tables.hierarchy l.fn.mapper).memory (g.M.Tables.hierarchy l.mapper).memory;
      rest : state_after machine now (map (to_call g.L.LevelCount.LEVELS g.P5.LevelFiveFlags.bits) (drop l.call-index l.calls)) ≡ state_after machine start (map (to_call g.L.LevelCount.LEVELS g.P5.LevelFiveFlags.bits) l.calls);
      free : FreeSoFar layout (g.M.Tables.hierarchy l.fn.mapper).memory (g.F.FrameAllocator.supply l.fn.frames) (all_back machine start (map (to_call g.L.LevelCount.LEVELS g.P5.LevelFiveFlags.bits) l.calls))
          (all_back machine now (map (to_call g.L.LevelCount.LEVELS g.P5.LevelFiveFlags.bits) (drop l.call-index l.calls))) (g.M.Tables.hierarchy l.mapper).memory (g.F.FrameAllocator.supply l.frames);
      room : vec_len l.replies + (length l.calls - l.call-index) ≤ vec_capacity l.replies;
      keeps : Keeps (g.M.Tables.hierarchy l.fn.mapper) (record { frames = g.F.FrameAllocator.supply l.fn.frames; serves = g.F.FrameKeeper.serves l.fn.frames; take_back = g.F.FrameDeallocator.take_back })
          (g.M.Tables.hierarchy l.mapper) (record { frames = g.F.FrameAllocator.supply l.frames; serves = g.F.FrameKeeper.serves l.frames; take_back = g.F.FrameDeallocator.take_back });
      items : g.K.Tokens.items l.tokens ≡ g.K.Tokens.items l.fn.tokens ++ recorded g.K.Tokens.records (items_told g.L.LevelCount.LEVELS (appended l.fn.replies.items l.replies.items));
      tokens : g.K.Tokens.has_room l.tokens (length l.calls - l.call-index);
    }
