use Rattle.std.proofs.Common.{rules, subst}
use Rattle.std.specs.Io.KnownBytes.{Appends}
use Rattle.ptdump_check.specs.Loaded.{words_loaded}
use Rattle.ptdump_engine.specs.Program.{report_of}
use Rattle.ptdump_engine.proofs.Wholly.{if_some, written_whole}
use Rattle.ptdump_engine.proofs.engine.write_whole.Goals as goal

pub returns-clause-text : goal.returns-clause-text
returns-clause-text g c = λ known.
    let contents = g.W.Destination.contents in
    if_some (report_of c.args.request.now g.L.LevelCount.LEVELS (words_loaded c.args.loaded.now) c.args.loaded.now.root)
    (λ text puts. let whole = written_whole contents c.new-output.result c.write_report.new.output c.finish.new.self text c.new-output.ensures.empty c.in_ok-finish.ensures.all puts c.in_ok-finish.ensures.same in
    let same : Appends (contents c.args.writer.now) (contents c.finish.new.self.writer.now) text = subst (λ w. Appends (contents w) (contents c.finish.new.self.writer.now) text) c.new-output.ensures.now whole in
    search rules)
    (c.in_ok-is_complete.ensures.text known)
