use Rattle.std.proofs.Common.{cond, Ok, Err, sym, ap, ◌∙◌}
use Rattle.x86_64_model.specs.Entry.{address}
use Rattle.x86_64_model.proofs.Lemmas.Entries.Words.{address_aligned}
use Rattle.x86_64_model.specs.Refusal.{ParentEntryHugePage}
use Rattle.x86_64_mappers.proofs.Memory.EntryWrites.{tested_huge}
use Rattle.x86_64_mappers.proofs.walk.map.mark_parent.Goals as goal

pub from_start_address_unchecked-next-requires : goal.from_start_address_unchecked-next-requires
from_start_address_unchecked-next-requires c = rw c.addr.ensures (address_aligned c.args.entry.now)

pub returns-then-contains-clause-names : goal.returns-then-contains-clause-names
returns-then-contains-clause-names c =
    ap (λ h. cond h (Err ParentEntryHugePage) (Ok (address c.args.entry.now)))
    (sym (c.if-contains.true) ∙ c.contains.ensures tt ∙ tested_huge c.args.entry.now c.flags-flags.result.0 c.flags-flags.ensures.value)

pub returns-else-contains-clause-names : goal.returns-else-contains-clause-names
returns-else-contains-clause-names c =
    ap Ok (c.from_start_address_unchecked-next.ensures ∙ c.addr.ensures)
    ∙ ap (λ h. cond h (Err ParentEntryHugePage) (Ok (address c.args.entry.now)))
    (sym (c.if-contains.false) ∙ c.contains.ensures tt ∙ tested_huge c.args.entry.now c.flags-flags.result.0 c.flags-flags.ensures.value)
