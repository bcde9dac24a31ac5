use Rattle.std.proofs.Common.{◌∙◌, ap}
use Rattle.x86_64_tables.specs.Views.{below_word}
use Rattle.x86_64_tables.proofs.WordsSeen.{zero_names_none}
use Rattle.x86_64_tables.proofs.phys_memory.hierarchy_view.HierarchyView.table_below.Goals as goal

pub returns-in-None : goal.returns-in-None
returns-in-None g c = zero_names_none ∙ ap below_word c.in-None.ensures
