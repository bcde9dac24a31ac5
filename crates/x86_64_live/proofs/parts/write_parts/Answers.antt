use Rattle.std.proofs.Common.{◌≡◌, ◌∙◌, ap, get_or, length-set, arith}
use Rattle.std.proofs.lemmas.List.{take_more_set}
use Rattle.std.proofs.lemmas.List.FromFn.{map-range_with_len_more}
use Rattle.x86_64_live.specs.Parts.{part_of, parts_of}
use Rattle.x86_64_live.proofs.PageParts.{all_parts, are_parts, maps_parts, part_read}
use Rattle.x86_64_live.proofs.parts.write_parts.Goals as goal

pub loop-index-preserved : goal.loop-index-preserved
loop-index-preserved c =
    let at = c.loop-index.index in
    let words = c.loop-index.table in
    let before = c.loop-index.invariant.words in
    let read = c.part_of.ensures in
    let set = c.set_word.ensures in
    let more = take_more_set words at c.set_word.new.self (omega (arith, c.index_mut.ensures.size, c.loop-index-test.true)) in
    let next = map-range_with_len_more (part_of c.args.level c.args.word) 0 at at (omega arith) in
    record { size = λ some. length-set words at c.set_word.new.self ∙ c.index_mut.ensures.size; words = cc }

pub returns-clause-words : goal.returns-clause-words
returns-clause-words c = all_parts c.args.level c.args.word c.loop-index.table c.loop-index.index (omega (arith, c.loop-index.auto.index-end, c.loop-index-test.false))
    (c.loop-index.invariant.size (omega (arith, c.loop-index-test.false))) c.loop-index.invariant.words

pub returns-clause-parts : goal.returns-clause-parts
returns-clause-parts c t all =
    let written : c.loop-index.table ≡ parts_of c.args.level c.args.word = all_parts c.args.level c.args.word c.loop-index.table c.loop-index.index
    (omega (arith, c.loop-index.auto.index-end, c.loop-index-test.false))
    (c.loop-index.invariant.size (omega (arith, c.loop-index-test.false))) c.loop-index.invariant.words in
    are_parts c.args.level c.args.word t c.loop-index.table (maps_parts c.args.level c.args.word t c.loop-index.table c.in_ok-may_split.ensures.good all
    (λ j small. ap (λ words. get_or words j 0) written ∙ part_read c.args.level c.args.word j small))
