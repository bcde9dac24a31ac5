use Rattle.std.proofs.Common.{rules}
use Rattle.std.proofs.lemmas.Slice.Eq.{slice_eq-Decides}
use Rattle.std.specs.Cmp.{unsigned_Decides}
use Rattle.x86_64_tables.proofs.frame_alloc.pool.FramePoolPartialEq.eq.Goals as goal

pub returns-clause-same_frames : goal.returns-clause-same_frames
returns-clause-same_frames c = slice_eq-Decides unsigned_Decides c.args.self.now.frames c.args.other.now.frames c.eq.result (search rules)
