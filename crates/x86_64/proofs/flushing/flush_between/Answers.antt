use Rattle.std.proofs.Common.{◌||◌, cond, refl, sym, ap, ◌∙◌}
use Rattle.std.specs.Option.{is_some}
use Rattle.x86_64_model.specs.Entry.{huge}
use Rattle.x86_64.proofs.Exchanged.{lost_between, flush_is, nothing_due, something_due}
use Rattle.x86_64.specs.declared.flushing.Flush.TheVariants.{Page, Everything}
use Rattle.x86_64.proofs.flushing.flush_between.Goals as goal

pub returns-then-has_flag-is_lost : goal.returns-then-has_flag-is_lost
returns-then-has_flag-is_lost c = λ L window q short at index.
    sym (flush_is L window q c.args.level c.args.old.now c.args.new.now short at c.args.recursive_index index (c.loses.result || c.lacks.result)
    (λ here. lost_between _ _ _ _ here c.loses.ensures.nothing c.loses.ensures.something c.lacks.ensures)
    c.has_flag.result (huge c.args.old.now) (is_some c.args.recursive_index) c.has_flag.ensures refl refl
    ∙ nothing_due _ _ _ c.if-has_flag-is_lost.true)

pub returns-then-level-names_table : goal.returns-then-level-names_table
returns-then-level-names_table c = λ L window q short at index.
    sym (flush_is L window q c.args.level c.args.old.now c.args.new.now short at c.args.recursive_index index (c.loses.result || c.lacks.result)
    (λ here. lost_between _ _ _ _ here c.loses.ensures.nothing c.loses.ensures.something c.lacks.ensures)
    c.has_flag.result c.has_flag-names_table.result c.is_some.result c.has_flag.ensures c.has_flag-names_table.ensures c.is_some.ensures
    ∙ something_due _ _ _ c.if-has_flag-is_lost.false ∙ ap (λ b. cond b Everything Page) c.if-level-names_table.true)

pub returns-else-level-names_table : goal.returns-else-level-names_table
returns-else-level-names_table c = λ L window q short at index.
    sym (flush_is L window q c.args.level c.args.old.now c.args.new.now short at c.args.recursive_index index (c.loses.result || c.lacks.result)
    (λ here. lost_between _ _ _ _ here c.loses.ensures.nothing c.loses.ensures.something c.lacks.ensures)
    c.has_flag.result c.has_flag-names_table.result c.is_some.result c.has_flag.ensures c.has_flag-names_table.ensures c.is_some.ensures
    ∙ something_due _ _ _ c.if-has_flag-is_lost.false ∙ ap (λ b. cond b Everything Page) c.if-level-names_table.false)
