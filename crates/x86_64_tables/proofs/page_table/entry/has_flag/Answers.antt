use Rattle.std.proofs.Common.{sym, ◌∙◌}
use Rattle.x86_64_tables.proofs.PageTableEntries.{tested}
use Rattle.x86_64_tables.proofs.page_table.entry.has_flag.Goals as goal

pub returns : goal.returns
returns c =
    c.contains.ensures tt ∙ sym (tested c.args.entry.now c.flags.result.0 c.args.flag.0 c.flags.ensures.value c.requires)
