use Rattle.std.proofs.Common.{subst}
use Rattle.ptdump_json.specs.InfoTexts.{text_told}
use Rattle.ptdump_engine.specs.Output.{Puts}
use Rattle.ptdump_json.specs.Walks.{line}
use Rattle.ptdump_engine.specs.private.Puts.{puts_nothing}
use Rattle.ptdump_engine.proofs.Listed.{puts_more}
use Rattle.ptdump_engine.proofs.opening.write_texts.Goals as goal

pub loop-text-init : goal.loop-text-init
loop-text-init g c = puts_nothing g.E.Destination.contents c.args.notes.now

pub loop-text-preserved : goal.loop-text-preserved
loop-text-preserved g c =
    puts_more g.E.Destination.contents (λ text. line (text_told text)) c.args.notes.now c.loop-text.notes c.write_text.new.notes c.args.texts.now c.loop-text.text-index c.text-item.result c.loop-text-test.true
    c.loop-text.invariant (subst (λ text. Puts g.E.Destination.contents c.loop-text.notes c.write_text.new.notes (line (text_told text))) c.text-item.is c.in_ok-write_text.ensures)
