use Rattle.std.proofs.Common.{sym, ap, ◌∙◌, length, rules}
use Rattle.x86_64_tables.specs.LentPool.{stacked}
use Rattle.x86_64_tables.proofs.LentPools.{fits_served}
use Rattle.x86_64_tables.proofs.Stacks.{length-stacked, same_array, same_count}
use Rattle.x86_64_c.specs.Arguments.{at}
use Rattle.x86_64_c.proofs.Pools.{lent_step, serves_root}
use Rattle.x86_64_c.proofs.pool.with_pool.Goals as goal

pub take-out-requires-clause-fits : goal.take-out-requires-clause-fits
take-out-requires-clause-fits g c =
    fits_served c.once_more.result.frames _ _ c.new-frames.ensures.serves (rw (c.new-frames.ensures.supply, c.once_more.ensures) c.requires.fits.1)

pub take-out-requires-clause-root : goal.take-out-requires-clause-root
take-out-requires-clause-root g c = λ gives.
    serves_root c.once_more.result.frames _ _ _ c.new-frames.ensures.serves g.L.LevelCount.LEVELS (g.P.PageTableFrameMapping.places c.args.located.mapping)
    (g.met.P.PageTableFrameMapping.is_mapping c.args.located.mapping) c.args.located.root (g.T.TableMemory.tables c.args.memory.now) (stacked c.args.array.now c.args.free_count)
    (rw c.once_more.ensures c.requires.fits.1) (rw c.once_more.ensures (c.requires.root gives))

pub take-out-requires-clause-count : goal.take-out-requires-clause-count
take-out-requires-clause-count g c = ap length c.new-frames.ensures.supply ∙ length-stacked c.args.array.now c.args.free_count c.requires.in_array

pub returns-clause-does : goal.returns-clause-does
returns-clause-does g c =
    let after = c.take-out.new.frames in
    let serves = c.take-out.ensures.serves ∙ c.new-frames.ensures.serves in
    let array = same_array c.once_more.result.frames after.own.frames _ _ after.entries.ghost_name after.count.ghost_name serves in
    let count = same_count c.once_more.result.frames after.own.frames _ _ after.entries.ghost_name after.count.ghost_name serves in
    let before = at g.P.PageTableFrameMapping.places g.L.LevelCount.LEVELS c.args.located (g.T.TableMemory.tables c.args.memory.now) in
    let left = at g.P.PageTableFrameMapping.places g.L.LevelCount.LEVELS c.args.located (g.T.TableMemory.tables c.take-out.new.memory) in
    record {
      does = rw (sym c.once_more.ensures) (lent_step (λ pool rest. g.S.PoolStep.does c.args.step.now before pool left rest c.take-out.result) c.once_more.result.frames _ _ c.take-out.ensures.serves
          (λ free rest. g.met.S.PoolStep.own_frames c.args.step.now c.once_more.result.frames _ _ _ c.new-frames.ensures.serves before left free rest c.take-out.result)
          _ _ _ _ c.new-frames.ensures.supply (search rules) c.take-out.ensures.does);
      room = search rules;
      in_array = search rules;
    }

pub returns-clause-unchanged : goal.returns-clause-unchanged
returns-clause-unchanged g c = λ refused.
    let after = c.take-out.new.frames in
    let serves = c.take-out.ensures.serves ∙ c.new-frames.ensures.serves in
    let array = same_array c.once_more.result.frames after.own.frames _ _ after.entries.ghost_name after.count.ghost_name serves in
    let count = same_count c.once_more.result.frames after.own.frames _ _ after.entries.ghost_name after.count.ghost_name serves in
    let kept = c.take-out.ensures.unchanged refused in
    let frames = kept.1 in
    (kept.0, search rules, search rules)
