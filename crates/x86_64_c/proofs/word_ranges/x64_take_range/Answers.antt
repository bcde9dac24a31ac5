use Rattle.std.proofs.Common.{length}
use Rattle.x86_64_c.proofs.WordRangesTold.{told_task}
use Rattle.x86_64_c.specs.Arguments.{hierarchy_in}
use Rattle.x86_64_c.specs.WordRanges.{ExchangesRange, bad_word_range}
use Rattle.x86_64_model.specs.Entry.{used}
use Rattle.x86_64_c.proofs.word_ranges.x64_take_range.Goals as goal

pub returns-clause-takes : goal.returns-clause-takes
returns-clause-takes c good =
    let h = hierarchy_in c.args.hierarchy.now c.args.tables.now in
    told_task c.enter-told.result h used c.args.first c.args.last c.args.pages.now c.enter-told.new.array
    (λ end. ExchangesRange h used (λ _. 0) c.args.first c.args.last end (hierarchy_in c.args.hierarchy.now c.enter-told.new.tables).memory)
    (bad_word_range c.args.hierarchy.now (length c.args.tables.now) c.args.first c.args.last)
    c.tell.result c.tell.new.count c.args.next.now c.tell.new.next c.enter-told.ensures.does c.tell.ensures.good c.enter-told.ensures.bad good
