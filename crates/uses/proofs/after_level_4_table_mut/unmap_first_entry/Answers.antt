use Rattle.std.proofs.Common.{rules, ap, ◌∙◌}
use Rattle.uses.proofs.FirstEntry.{cleared}
use Rattle.uses.proofs.after_level_4_table_mut.unmap_first_entry.Goals as goal

pub returns-in_err-is_valid-clause-cleared : goal.returns-in_err-is_valid-clause-cleared
returns-in_err-is_valid-clause-cleared c =
    cleared c.args.memory.now _ _ c.args.root _ _ _ c.new-mapper.ensures.memory (ap (λ l. l.root) c.new-mapper.ensures.layout) c.level_4_table_mut.ensures.value c.set_unused.ensures
    (search rules ∙ c.drop-mapper.ensures.memory)

pub returns-then-not-branch-clause-cleared : goal.returns-then-not-branch-clause-cleared
returns-then-not-branch-clause-cleared c =
    cleared c.args.memory.now _ _ c.args.root _ _ _ c.new-mapper.ensures.memory (ap (λ l. l.root) c.new-mapper.ensures.layout) c.level_4_table_mut.ensures.value c.set_unused.ensures
    (search rules ∙ c.drop-mapper-then-not-branch.ensures.memory)

pub returns-clause-cleared : goal.returns-clause-cleared
returns-clause-cleared c =
    cleared c.args.memory.now _ _ c.args.root _ _ _ c.new-mapper.ensures.memory (ap (λ l. l.root) c.new-mapper.ensures.layout) c.level_4_table_mut.ensures.value c.set_unused.ensures
    (search rules ∙ c.drop-mapper-2.ensures.memory)
