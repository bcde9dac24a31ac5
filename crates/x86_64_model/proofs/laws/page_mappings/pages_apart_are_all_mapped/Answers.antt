use Rattle.x86_64_model.proofs.Lemmas.Machines.PageMappings.{mappings_succeed}
use Rattle.x86_64_model.proofs.laws.page_mappings.pages_apart_are_all_mapped.Goals as goal

pub returns : goal.returns
returns c = mappings_succeed
