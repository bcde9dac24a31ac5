use Rattle.std.proofs.Common.{rules, subst}
use Rattle.std.specs.Io.KnownBytes.{Appends}
use Rattle.x86_64_dump.specs.Opened.{opened}
use Rattle.ptdump_engine.specs.Program.{info_of}
use Rattle.ptdump_engine.proofs.Wholly.{written_whole}
use Rattle.ptdump_engine.proofs.info.write_info.Goals as goal

pub returns-clause-written : goal.returns-clause-written
returns-clause-written g c = λ known.
    let contents = g.W.Destination.contents in
    let text = info_of c.args.request.now (opened g.S.ByteSource.bytes c.args.dump.now) in
    let whole = written_whole contents c.new-output.result c.write_lines.new.output c.finish.new.self text c.new-output.ensures.empty c.in_ok-finish.ensures.all
    (c.in_ok-write_lines.ensures.text known) c.in_ok-finish.ensures.same in
    let same : Appends (contents c.args.writer.now) (contents c.finish.new.self.writer.now) text = subst (λ w. Appends (contents w) (contents c.finish.new.self.writer.now) text) c.new-output.ensures.now whole in
    search rules
