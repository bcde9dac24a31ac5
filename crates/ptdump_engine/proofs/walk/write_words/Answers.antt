use Rattle.std.proofs.Common.{subst}
use Rattle.ptdump_engine.specs.Output.{Puts}
use Rattle.ptdump_json.specs.Walks.{word_lines}
use Rattle.ptdump_engine.specs.private.Puts.{puts_nothing}
use Rattle.ptdump_engine.proofs.Listed.{puts_more}
use Rattle.ptdump_engine.proofs.walk.write_words.Goals as goal

pub loop-word-init : goal.loop-word-init
loop-word-init g c = puts_nothing g.W.Destination.contents c.args.output.now

pub loop-word-preserved : goal.loop-word-preserved
loop-word-preserved g c =
    let contents = g.W.Destination.contents in
    puts_more contents (word_lines c.args.controls) c.args.output.now c.loop-word.output c.write_word.new.output c.args.words.now c.loop-word.word-index c.word-item.result c.loop-word-test.true
    c.loop-word.invariant (subst (λ w. Puts contents c.loop-word.output c.write_word.new.output (word_lines c.args.controls w)) c.word-item.is c.in_ok-write_word.ensures)
