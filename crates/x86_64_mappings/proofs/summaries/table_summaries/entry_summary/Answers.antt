use Rattle.std.proofs.Common.{◌+◌, length, ◌∙◌}
use Rattle.x86_64_mappings.specs.Wanted.{asked_of}
use Rattle.x86_64_mappings.specs.private.Known.{asking}
use Rattle.x86_64_mappings.specs.private.Targets.{asked_by}
use Rattle.x86_64_mappings.proofs.Summed.{of_none, of_table}
use Rattle.x86_64_mappings.proofs.Tables.{by_nothing}
use Rattle.x86_64_mappings.proofs.summaries.table_summaries.entry_summary.Goals as goal
use Rattle.x86_64_model.specs.Mappings.{every_right}

pub returns-in-Nothing : goal.returns-in-Nothing
returns-in-Nothing g c start =
    let asked = asked_of g.T.TableMemory.tables g.P.PageTableFrameMapping.places (asking c.args.query.now) in
    let level = length c.args.below.now + 1 in
    of_none (asked_by asked level start every_right c.args.entry.now) (by_nothing asked level start every_right c.args.entry.now c.in-Nothing.ensures.value)

pub returns-in_ok-summary-in-Table : goal.returns-in_ok-summary-in-Table
returns-in_ok-summary-in-Table g c start =
    let asked = asked_of g.T.TableMemory.tables g.P.PageTableFrameMapping.places (asking c.args.query.now) in
    c.below-in-Table.ensures
    ∙ of_table asked (length c.args.below.now) start c.args.entry.now c.in-Table.frame c.below.result c.in_ok-summary-in-Table.summary c.in-Table.ensures.value c.below.ensures c.in_ok-summary-in-Table.ensures
