use Rattle.std.proofs.Common.{sym, ap, ◌∙◌, Ok}
use Rattle.x86_64_model.proofs.Lemmas.Entries.Words.{address_aligned}
use Rattle.x86_64_tables.proofs.PageTableEntries.{not_present, present_huge, present_small}
use Rattle.x86_64_tables.proofs.page_table.entry.PageTableEntry.frame.Goals as goal

pub from_start_address_unchecked-requires : goal.from_start_address_unchecked-requires
from_start_address_unchecked-requires c = rw c.addr.ensures (address_aligned c.args.self.now)

pub returns-then-not-contains : goal.returns-then-not-contains
returns-then-not-contains c =
    not_present c.args.self.now c.flags-flags.result.0 c.flags-flags.ensures.value (sym (c.contains.ensures tt) ∙ c.if-not-contains.true)

pub returns-then-contains : goal.returns-then-contains
returns-then-contains c =
    present_huge c.args.self.now c.flags-flags.result.0 c.flags-flags.ensures.value (sym (c.contains.ensures tt) ∙ c.if-not-contains.false)
    (sym (c.contains-else-not-contains.ensures tt) ∙ c.if-contains.true)

pub returns-else-contains : goal.returns-else-contains
returns-else-contains c =
    ap Ok (c.from_start_address_unchecked.ensures ∙ c.addr.ensures)
    ∙ present_small c.args.self.now c.flags-flags.result.0 c.flags-flags.ensures.value (sym (c.contains.ensures tt) ∙ c.if-not-contains.false)
    (sym (c.contains-else-not-contains.ensures tt) ∙ c.if-contains.false)
