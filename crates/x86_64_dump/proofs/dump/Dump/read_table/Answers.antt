use Rattle.std.proofs.Common.{◌≡◌, ◌∙◌, sym}
use Rattle.x86_64_dump.specs.Opened.{opened}
use Rattle.x86_64_dump.specs.Source.{bytes_at}
use Rattle.x86_64_dump.proofs.Frames.{no_words, frame_words}
use Rattle.x86_64_dump.proofs.dump.Dump.read_table.Goals as goal

pub returns-in_default-clause-words : goal.returns-in_default-clause-words
returns-in_default-clause-words g c known =
    let source = c.args.self.now.source in
    no_words (opened g.S.ByteSource.bytes c.args.self.now) c.args.frame (g.S.ByteSource.size source) (g.met.S.ByteSource.counted known source)
    (sym c.offset_of.ensures.offset ∙ c.in_default.is)

pub returns-clause-words : goal.returns-clause-words
returns-clause-words g c known =
    let source = c.args.self.now.source in
    let dump = opened g.S.ByteSource.bytes c.args.self.now in
    let read : c.read_exact_at.new.buffer ≡ bytes_at dump.file c.in-Some.offset 4096 = c.in_ok-read_exact_at.ensures.bytes known in
    frame_words dump c.args.frame (g.S.ByteSource.size source) c.in-Some.offset _ _ (g.met.S.ByteSource.counted known source) c.offset_of.ensures.frame
    (sym c.offset_of.ensures.offset ∙ c.in-Some.is) read c.set_words.ensures
