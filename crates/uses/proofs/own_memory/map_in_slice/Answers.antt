use Rattle.std.proofs.Common.{rules, ap, ◌∙◌}
use Rattle.x86_64_tables.specs.LentMemory.{tables_in_order}
use Rattle.x86_64_tables.proofs.NumberedTables.{in_order-numbered}
use Rattle.uses.proofs.own_memory.map_in_slice.Goals as goal

pub returns-clause-kept : goal.returns-clause-kept
returns-clause-kept c e =
    let kept = c.map_in.ensures.kept e in
    (search rules ∙ c.drop-memory.ensures.in_order ∙ ap tables_in_order (kept.0 ∙ c.new-memory.ensures.tables) ∙ in_order-numbered c.args.tables.now, kept.1)
