use Rattle.std.proofs.Common.{◌*◌, ◌∙◌, length-set, arith}
use Rattle.std.proofs.lemmas.List.{take_more_set}
use Rattle.std.proofs.lemmas.List.FromFn.{map-range_with_len_more}
use Rattle.x86_64_dump.specs.Dump.{without_bits}
use Rattle.x86_64_dump.specs.Numbers.{u64_at}
use Rattle.x86_64_dump.proofs.Frames.{all_words}
use Rattle.x86_64_dump.proofs.frame.set_words.Goals as goal

pub loop-i-preserved : goal.loop-i-preserved
loop-i-preserved c =
    let at = c.loop-i.i in
    let words = c.loop-i.table in
    let before = c.loop-i.invariant.words in
    let read = c.read_u64.ensures in
    let set = c.set_word.ensures in
    let more = take_more_set words at c.set_word.new.self (omega (arith, c.index_mut.ensures.size, c.loop-i-test.true)) in
    let next = map-range_with_len_more (λ i. without_bits c.args.cleared (u64_at c.args.bytes.now (8 * i))) 0 at at (omega arith) in
    record { size = λ some. length-set words at c.set_word.new.self ∙ c.index_mut.ensures.size; words = cc }

pub returns : goal.returns
returns c = all_words c.args.cleared c.args.bytes.now c.loop-i.table c.loop-i.i (omega (arith, c.loop-i.auto.i-end, c.loop-i-test.false))
    (c.loop-i.invariant.size (omega (arith, c.loop-i-test.false))) c.loop-i.invariant.words
