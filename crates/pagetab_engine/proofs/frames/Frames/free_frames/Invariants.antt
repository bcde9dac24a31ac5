use Rattle.std.proofs.Common.{◌≡◌, take}
use Rattle.pagetab_engine.proofs.frames.Frames.free_frames.Given as goal

abbrev pub invariant-loop-n : goal.invariant-loop-n
invariant-loop-n l = l.frames.items ≡ take l.n l.self.pool.frames
