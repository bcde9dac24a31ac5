use Rattle.std.proofs.Common.{◌∙◌}
use Rattle.x86_64_model.proofs.Lemmas.Machines.Giving.{giving_from}
use Rattle.x86_64_spaces.specs.SpaceLayouts.{indices_of}
use Rattle.x86_64.specs.Calls.{to_call}
use Rattle.x86_64.proofs.AskedCalls.{is_call}
use Rattle.x86_64.proofs.SharedEntries.{spaces_kept}
use Rattle.x86_64.proofs.sharing.run_call_in_space.Goals as goal

pub returns-clause-spaces : goal.returns-clause-spaces
returns-clause-spaces g c =
    let s = c.args.mapper.now in let h = g.M.Tables.hierarchy s in let bits = g.P5.LevelFiveFlags.bits in
    let four = g.met.M.Tables.at_least_four s in let known = g.met.M.TablesIn.level_count s in
    spaces_kept c.spaces_stay.ensures c.calls_keep_root_entries.ensures h four (g.M.Tables.added_flags s).adds (g.met.M.Tables.is_mapping s)
    (record { frames = g.F.FrameAllocator.supply c.args.frames.now; serves = g.F.FrameKeeper.serves c.args.frames.now; take_back = g.F.FrameDeallocator.take_back })
    (giving_from _ g.met.F.FrameDeallocator.take_back_rearranges) c.requires
    (to_call g.L.LevelCount.LEVELS bits c.args.call) (is_call h.layout.levels four bits (λ flags. known ∙ g.met.P5.LevelFiveFlags.five flags) g.L.LevelCount.LEVELS c.args.call)
    c.run_call.result (g.M.Tables.hierarchy c.run_call.new.mapper) _ c.run_call.ensures.keeps.keeps c.run_call.ensures.step
    (indices_of c.args.shared) (c.keeps_shared_entries.ensures.0 c.if-not-keeps_shared_entries.false)
