use Rattle.x86_64_model.proofs.Lemmas.Machines.MappedPages.{mappings_stand}
use Rattle.x86_64_model.proofs.laws.page_mappings.pages_that_are_all_mapped_stand.Goals as goal

pub returns : goal.returns
returns c = mappings_stand
