use Rattle.x86_64_model.specs.Pool.{serves_below}
use Rattle.x86_64_spaces.specs.SpaceLayouts.{indices_of}
use Rattle.x86_64_spaces.proofs.AllSharing.{fit_alike, answers_alike}
use Rattle.x86_64_spaces.proofs.fitting.spaces_fit.Goals as goal

pub returns-clause-decides : goal.returns-clause-decides
returns-clause-decides g c =
    let m = g.T.TableMemory.tables c.args.memory.now in let places = g.P.PageTableFrameMapping.places c.args.mapping.now in
    let same = fit_alike (indices_of c.args.shared) g.L.LevelCount.LEVELS places m c.args.spaces.now c.args.pool.now.frames (serves_below c.args.pool.now.limit) in
    answers_alike same c.list_fits_pool.result c.list_fits_pool.ensures.decides
