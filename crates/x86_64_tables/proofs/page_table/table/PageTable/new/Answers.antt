use Rattle.std.proofs.Common.{rules}
use Rattle.x86_64_tables.specs.PageTable.{all_zero}
use Rattle.x86_64_tables.proofs.page_table.table.PageTable.new.Goals as goal

pub returns : goal.returns
returns c =
    let h = c.from_fn.ensures.items.at in
    all_zero c.from_fn.result c.from_fn.ensures.items.long (λ k b. let t = h k 0 b in search rules)
