use Rattle.x86_64_live.proofs.Looks.{LooksAt}
use Rattle.x86_64_mappers.specs.Layouts.{direct_at}
use Rattle.x86_64_model.specs.Hierarchy.{◌laid_in◌}
use Rattle.x86_64_live.proofs.look.would_prepare.Given as goal

abbrev pub invariant-loop-above : goal.invariant-loop-above
invariant-loop-above g l =
    let h = direct_at g.L.LevelCount.LEVELS (g.P.PageTableFrameMapping.places l.mapping) l.fn.root laid_in g.T.TableMemory.tables l.memory in
    LooksAt h g.S.PageSize.LEVEL l.page 0 l.free_frames l.above l.table
