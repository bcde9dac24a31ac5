use Rattle.std.proofs.Common.{rules, ◌∙◌, subst}
use Rattle.std.specs.Io.KnownBytes.{Appends}
use Rattle.ptdump_engine.specs.Output.{Puts}
use Rattle.ptdump_engine.specs.Processors.{cpus_with, heading_text}
use Rattle.ptdump_engine.proofs.Wholly.{written_whole}
use Rattle.ptdump_engine.proofs.roots.write_heading.Goals as goal

pub returns : goal.returns
returns g c =
    let contents = g.W.Destination.contents in
    let root = c.args.first.now.start.root in
    let text = heading_text c.args.form (cpus_with c.args.groups.now.processors.now c.args.first.now) root in
    let put : Puts contents c.new-output.result c.write_heading_in.new.output text =
    subst (λ cpus. Puts contents c.new-output.result c.write_heading_in.new.output (heading_text c.args.form cpus root)) (c.cpus_with-cpus.ensures ∙ c.requires c.args.first.now) c.in_ok-write_heading_in.ensures in
    let whole = written_whole contents c.new-output.result c.write_heading_in.new.output c.finish.new.self text c.new-output.ensures.empty c.in_ok-finish.ensures.all put c.in_ok-finish.ensures.same in
    let same : Appends (contents c.args.writer.now) (contents c.finish.new.self.writer.now) text = subst (λ w. Appends (contents w) (contents c.finish.new.self.writer.now) text) c.new-output.ensures.now whole in
    search rules
