use Rattle.std.proofs.Common.{arith, ◌∙◌, rules}
use Rattle.x86_64_tables.specs.PageTable.{all_zero}
use Rattle.x86_64_tables.proofs.page_table.table.PageTable.zero.Goals as goal

pub returns : goal.returns
returns c = all_zero c.loop-entry.entries (c.loop-entry.auto.entries ∙ search rules) (λ k b. c.loop-entry.invariant k (omega arith))
