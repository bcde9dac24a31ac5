use Rattle.std.proofs.Common.{◌≡◌, ◌++◌, rules, sym, ◌∙◌, subst}
use Rattle.x86_64_addr.specs.Levels.{IsLevelCount}
use Rattle.x86_64_model.proofs.Lemmas.Machines.Giving.{giving_from}
use Rattle.x86_64.specs.Calls.{to_call}
use Rattle.x86_64.specs.Flushes.{items_told}
use Rattle.x86_64.specs.Runs.{appended}
use Rattle.x86_64.proofs.AskedCalls.{is_call}
use Rattle.x86_64.proofs.Flushed.{flushed}
use Rattle.x86_64.proofs.Rounds.{appended_told}
use Rattle.x86_64.proofs.runs.flushed.run_flushed.Goals as goal

pub returns-clause-flushed : goal.returns-clause-flushed
returns-clause-flushed g c =
    let mapper = c.args.mapper.now in
    let h = g.M.Tables.hierarchy mapper in
    let bits = g.P5.LevelFiveFlags.bits in
    let levels = g.met.M.TablesIn.level_count mapper in
    let ran = c.serve_all.ensures.ran in
    let before = c.args.replies.now.items in
    let now = c.serve_all.new.replies.items in
    record {
      items = subst (λ n. c.serve_all.new.tokens.items ≡ c.args.recorder.now.items ++ items_told n (appended before now)) (sym levels) (search rules);
      suffice = flushed (to_call g.L.LevelCount.LEVELS bits) h.layout (subst IsLevelCount (sym levels) g.L.LevelCount.known_levels)
          (is_call h.layout.levels (g.met.M.Tables.at_least_four mapper) bits (λ flags. levels ∙ g.met.P5.LevelFiveFlags.five flags) g.L.LevelCount.LEVELS)
          (g.M.Tables.added_flags mapper).adds g.F.FrameDeallocator.take_back (giving_from _ g.met.F.FrameDeallocator.take_back_rearranges)
          (g.F.FrameKeeper.serves c.args.frames.now) h.memory (g.F.FrameAllocator.supply c.args.frames.now) c.requires c.args.calls.now _ (g.F.FrameAllocator.supply c.serve_all.new.frames)
          c.serve_all.ensures.keeps.keeps.fits.valid ran.state _ (appended_told before now _ (search rules));
    }
