use Rattle.std.proofs.Common.{OnOk, [], append-nil, subst, sym}
use Rattle.ptdump_engine.specs.Output.{Puts}
use Rattle.ptdump_engine.specs.Program.{source_text}
use Rattle.ptdump_engine.specs.private.Puts.{puts_both}
use Rattle.ptdump_json.specs.declared.start.Origin.TheVariants.{ByKernel, ByText}
use Rattle.ptdump_json.proofs.Results.{on_ok}
use Rattle.ptdump_engine.proofs.engine.write_source.Goals as goal

pub returns-in_ok-writeln-in-ByKernel-clause-text : goal.returns-in_ok-writeln-in-ByKernel-clause-text
returns-in_ok-writeln-in-ByKernel-clause-text g c =
    let contents = g.E.Destination.contents in
    let before = c.args.notes.now in
    let after = c.finish.new.self in
    let text = source_text ByKernel in
    subst (λ origin. OnOk c.finish.result (Puts contents before after (source_text origin))) (sym c.in-ByKernel.is)
    (on_ok c.finish.result (λ rest. subst (Puts contents before after) (append-nil text) (puts_both contents before c.writeln.new.self after text [] c.in_ok-writeln-in-ByKernel.ensures.text rest))
    c.finish.ensures.same)

pub returns-in_ok-write_text_source-in-ByText-clause-text : goal.returns-in_ok-write_text_source-in-ByText-clause-text
returns-in_ok-write_text_source-in-ByText-clause-text g c =
    let contents = g.E.Destination.contents in
    let before = c.args.notes.now in
    let after = c.finish-in-ByText.new.self in
    let text = source_text (ByText c.in-ByText.offset) in
    subst (λ origin. OnOk c.finish-in-ByText.result (Puts contents before after (source_text origin))) (sym c.in-ByText.is)
    (on_ok c.finish-in-ByText.result (λ rest. subst (Puts contents before after) (append-nil text)
    (puts_both contents before c.write_text_source.new.notes after text [] c.in_ok-write_text_source-in-ByText.ensures rest)) c.finish-in-ByText.ensures.same)
