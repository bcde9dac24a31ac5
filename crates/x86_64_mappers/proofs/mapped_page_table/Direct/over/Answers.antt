use Rattle.std.proofs.Common.{[], refl}
use Rattle.x86_64_mappers.proofs.mapped_page_table.Direct.over.Goals as goal

pub invariant_of-result : goal.invariant_of-result
invariant_of-result g c = record { has_root = c.requires.valid.holds.in_memory [] c.args.root refl }
