use Rattle.std.proofs.Common.{rules}
use Rattle.x86_64_model.specs.Pool.{serves_below}
use Rattle.uses.proofs.AgainAtOffset.{fits_still, pool_fits_again}
use Rattle.uses.proofs.at_offset.run_at_offset.Goals as goal

pub returns-clause-pool : goal.returns-clause-pool
returns-clause-pool g c =
    let pool = c.args.pool.now in
    pool_fits_again _ c.args.root c.args.phys_offset (serves_below pool.limit) c.args.memory.now pool.frames c.run.new.frames.frames c.requires.offset c.requires.pool
    _ _ _ _ c.new-mapper.ensures.layout c.new-mapper.ensures.memory (search rules) c.run.ensures.keeps.keeps (serves_below c.run.new.frames.limit) c.run.ensures.keeps.serves

pub returns-clause-offset : goal.returns-clause-offset
returns-clause-offset g c =
    let pool = c.args.pool.now in
    fits_still _ c.args.root c.args.phys_offset (serves_below pool.limit) c.args.memory.now pool.frames c.run.new.frames.frames c.requires.offset c.requires.pool
    _ _ _ _ c.new-mapper.ensures.layout c.new-mapper.ensures.memory (search rules) c.run.ensures.keeps.keeps
