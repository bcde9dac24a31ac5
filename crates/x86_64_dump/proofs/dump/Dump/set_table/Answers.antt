use Rattle.std.proofs.Common.{◌-◌, ◌∙◌, ap}
use Rattle.x86_64_dump.specs.Dump.{words_at}
use Rattle.x86_64_dump.specs.Opened.{opened}
use Rattle.x86_64_dump.specs.Source.{bytes_at}
use Rattle.x86_64_dump.proofs.Frames.{frame_words, words_shown}
use Rattle.x86_64_dump.proofs.Parts.{part_shows}
use Rattle.x86_64_dump.proofs.dump.Dump.set_table.Goals as goal

pub returns-clause-frame : goal.returns-clause-frame
returns-clause-frame g c known of frame is has =
    let source = c.args.self.now.source in
    frame_words (opened g.S.ByteSource.bytes c.args.self.now) frame (g.S.ByteSource.size source) c.args.offset _ _
    (g.met.S.ByteSource.counted known source) is has (c.frame.ensures.file (g.S.ByteSource.bytes source) of) c.set_words.ensures

pub returns-clause-words : goal.returns-clause-words
returns-clause-words g c =
    let part = c.args.part.now in
    let at = c.args.offset - part.start in
    let cleared = c.args.self.now.cleared in
    c.set_words.ensures ∙ ap (λ bytes. words_at cleared bytes 0) c.frame.ensures.bytes
    ∙ words_shown cleared (bytes_at part.bytes at 4096) part.bytes at (part_shows part.bytes at 4096)
