use Rattle.std.proofs.Common.{◌-◌}
use Rattle.x86_64_spaces.proofs.Passed.{Passed}
use Rattle.x86_64_spaces.proofs.fitting.SpacesTest.mark_spaces.Given as goal

-- the spaces so far are alike, and their tables are marked
abbrev pub invariant-loop-n : goal.invariant-loop-n
invariant-loop-n g l =
    Passed ((g.L.LevelCount.LEVELS - 1) - 1) (g.T.TableMemory.tables l.self.memory.now) (g.P.PageTableFrameMapping.places l.self.mapping.now)
    (g.S.SpaceList.spaces l.spaces) l.self.limit l.fn.marks l.n l.marks
