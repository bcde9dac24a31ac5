use Rattle.std.proofs.Common.{◌∙◌, is_some, ap}
use Rattle.x86_64_dump.specs.Opened.{opened}
use Rattle.x86_64_dump.proofs.Frames.{frame_there}
use Rattle.x86_64_dump.proofs.dump.Dump.has_frame.Goals as goal

pub returns-clause-known : goal.returns-clause-known
returns-clause-known g c known =
    let source = c.args.self.now.source in
    c.is_some.ensures ∙ ap is_some c.offset_of.ensures.offset
    ∙ frame_there (opened g.S.ByteSource.bytes c.args.self.now) c.args.frame (g.S.ByteSource.size source) (g.met.S.ByteSource.counted known source) c.offset_of.ensures.frame
