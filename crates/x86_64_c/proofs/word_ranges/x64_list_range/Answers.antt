use Rattle.std.proofs.Common.{◌≡◌, length}
use Rattle.x86_64_c.proofs.WordRangesTold.{same_tables, told_task}
use Rattle.x86_64_c.specs.Arguments.{hierarchy_in}
use Rattle.x86_64_c.specs.WordRanges.{bad_word_range}
use Rattle.x86_64_model.specs.Entry.{used}
use Rattle.x86_64_c.proofs.word_ranges.x64_list_range.Goals as goal

pub returns-clause-lists : goal.returns-clause-lists
returns-clause-lists c good =
    let h = hierarchy_in c.args.hierarchy.now c.args.tables.now in
    let told = told_task c.enter-told.result h used c.args.first c.args.last c.args.pages.now c.enter-told.new.array
    (λ end. (hierarchy_in c.args.hierarchy.now c.enter-told.new.tables).memory ≡ h.memory)
    (bad_word_range c.args.hierarchy.now (length c.args.tables.now) c.args.first c.args.last)
    c.tell.result c.tell.new.count c.args.next.now c.tell.new.next c.enter-told.ensures.does c.tell.ensures.good c.enter-told.ensures.bad good in
    (told.0, told.1, told.2, told.4)

pub returns-clause-tables : goal.returns-clause-tables
returns-clause-tables c =
    same_tables c.enter-told.result c.args.tables.now c.enter-told.new.tables _ _ c.enter-told.ensures.does c.enter-told.ensures.unchanged
