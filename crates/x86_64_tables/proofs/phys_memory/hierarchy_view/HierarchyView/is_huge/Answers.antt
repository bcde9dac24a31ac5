use Rattle.std.proofs.Common.{◌∙◌, ap, sym}
use Rattle.x86_64_model.specs.Entry.{huge}
use Rattle.x86_64_model.proofs.Lemmas.Hierarchies.Changes.{zero_not_huge}
use Rattle.x86_64_tables.proofs.phys_memory.hierarchy_view.HierarchyView.is_huge.Goals as goal

pub returns-in-None : goal.returns-in-None
returns-in-None g c = sym zero_not_huge ∙ ap huge (c.in-None.ensures)
